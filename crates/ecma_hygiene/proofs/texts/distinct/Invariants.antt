use Rattle.std.proofs.Common.{◌≡◌, ◌++◌, drop}
use Rattle.ecma_hygiene.specs.Sets.{has_id}
use Rattle.ecma_hygiene.specs.Texts.{distinct, none}
use Rattle.ecma_hygiene.proofs.texts.distinct.Given as goal

-- those that are there, and the others that were not met
abbrev pub invariant-loop-id : goal.invariant-loop-id
invariant-loop-id l = l.found ++ distinct (has_id l.met) (drop l.id-index l.id-items) ≡ distinct none l.ids
