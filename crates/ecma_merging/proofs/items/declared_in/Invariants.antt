use Rattle.std.proofs.Common.{◌≡◌}
use Rattle.ecma_merging.specs.Items.{declared_at, declared_in}
use Rattle.ecma_merging.proofs.Among.{and_given}
use Rattle.ecma_merging.proofs.items.declared_in.Given as goal

-- what is there, and what the other items declare
abbrev pub invariant-loop-item : goal.invariant-loop-item
invariant-loop-item l = and_given (declared_at l.ambient) l.items l.item-index l.declared ≡ declared_in l.ambient l.items
