use Rattle.std.proofs.Common.{refl}
use Rattle.ecma_forest.specs.Slots.{grown}
use Rattle.ecma_forest.proofs.forest.Forest.new.Goals as goal

pub returns-clause-below : goal.returns-clause-below
unfolding grown
returns-clause-below c = rw c.new-2.ensures.items refl
