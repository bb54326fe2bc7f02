use Rattle.ecma_pipeline_interface.proofs.Written.{written_trees}
use Rattle.ecma_pipeline_interface.proofs.written_trees_have_their_interface.Goals as goal

pub returns : goal.returns
returns c = written_trees
