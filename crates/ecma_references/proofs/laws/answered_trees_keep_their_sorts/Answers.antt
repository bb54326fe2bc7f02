use Rattle.ecma_references.proofs.Sorting.{trees_keep_sorts}
use Rattle.ecma_references.proofs.laws.answered_trees_keep_their_sorts.Goals as goal

pub returns : goal.returns
returns c = trees_keep_sorts
