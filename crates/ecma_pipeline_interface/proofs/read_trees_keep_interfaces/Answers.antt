use Rattle.ecma_pipeline_interface.proofs.Read.{read_keeps}
use Rattle.ecma_pipeline_interface.proofs.read_trees_keep_interfaces.Goals as goal

pub returns : goal.returns
returns c = read_keeps
