use Rattle.std.proofs.Common.{◌≡◌}
use Rattle.ecma_merging.specs.Given.{given_at, given_in}
use Rattle.ecma_merging.proofs.Among.{and_given}
use Rattle.ecma_merging.proofs.given.given_in.Given as goal

-- what is there, and what the other items give
abbrev pub invariant-loop-item : goal.invariant-loop-item
invariant-loop-item l = and_given given_at l.items l.item-index l.given ≡ given_in l.items
