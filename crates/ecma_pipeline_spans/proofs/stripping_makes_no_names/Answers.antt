use Rattle.ecma_pipeline_spans.proofs.Stripping.{names_left}
use Rattle.ecma_pipeline_spans.proofs.stripping_makes_no_names.Goals as goal

pub returns : goal.returns
returns c = names_left
