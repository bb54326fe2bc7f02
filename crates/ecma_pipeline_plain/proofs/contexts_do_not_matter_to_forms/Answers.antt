use Rattle.ecma_pipeline_plain.proofs.Untaken.{contexts_do_not_matter}
use Rattle.ecma_pipeline_plain.proofs.contexts_do_not_matter_to_forms.Goals as goal

pub returns : goal.returns
returns c = contexts_do_not_matter
