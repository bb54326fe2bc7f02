use Rattle.ecma_strip_idempotent.proofs.Sorted as law
use Rattle.ecma_strip_idempotent.proofs.sorted_trees_strip_once.Goals as goal

pub returns : goal.returns
returns c = law.sorted_trees_strip_once
