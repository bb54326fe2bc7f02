use Rattle.ecma_marks.proofs.Interfaces.{marked_trees_have_their_interface}
use Rattle.ecma_marks.proofs.marked_trees_have_their_interface.Goals as goal

pub returns : goal.returns
returns c = marked_trees_have_their_interface
