use Rattle.ecma_marks.proofs.Fitting.{marked_trees_have_no_other_names}
use Rattle.ecma_marks.proofs.marked_trees_have_no_other_names.Goals as goal

pub returns : goal.returns
returns c = marked_trees_have_no_other_names
