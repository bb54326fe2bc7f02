use Rattle.ecma_marks.proofs.Runs.{marked_trees_run_alike}
use Rattle.ecma_marks.proofs.marked_trees_run_alike.Goals as goal

pub returns : goal.returns
returns c = marked_trees_run_alike
