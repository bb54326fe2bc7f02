use Rattle.ecma_marks.proofs.Captures.{marked_trees_capture_alike}
use Rattle.ecma_marks.proofs.marked_trees_capture_alike.Goals as goal

pub returns : goal.returns
returns c = marked_trees_capture_alike
