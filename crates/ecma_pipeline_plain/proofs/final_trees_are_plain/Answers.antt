use Rattle.ecma_pipeline_plain.proofs.Law.{final_trees_plain}
use Rattle.ecma_pipeline_plain.proofs.final_trees_are_plain.Goals as goal

pub returns : goal.returns
returns c = final_trees_plain
