use Rattle.ecma_pipeline_plain.proofs.Untaken.{resolved_taken}
use Rattle.ecma_pipeline_plain.proofs.resolved_trees_are_taken.Goals as goal

pub returns : goal.returns
returns c = resolved_taken
