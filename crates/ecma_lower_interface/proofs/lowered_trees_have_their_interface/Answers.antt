use Rattle.ecma_lower_interface.proofs.Modules.{lowered_trees_have_their_interface}
use Rattle.ecma_lower_interface.proofs.lowered_trees_have_their_interface.Goals as goal

pub returns : goal.returns
returns c = lowered_trees_have_their_interface
