use Rattle.ecma_marks.proofs.Contexts.{marked_trees_have_own_contexts}
use Rattle.ecma_marks.proofs.marked_trees_have_own_contexts.Goals as goal

pub returns : goal.returns
returns c = marked_trees_have_own_contexts
