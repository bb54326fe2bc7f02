use Rattle.ecma_pipeline_plain.proofs.ReadyPlain.{ready_trees_plain}
use Rattle.ecma_pipeline_plain.proofs.ready_trees_are_plain.Goals as goal

pub returns : goal.returns
returns c = ready_trees_plain
