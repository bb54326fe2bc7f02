use Rattle.ecma_marks.proofs.Ready.{marked_trees_are_ready}
use Rattle.ecma_marks.proofs.marked_trees_are_ready.Goals as goal

pub returns : goal.returns
returns c = marked_trees_are_ready
