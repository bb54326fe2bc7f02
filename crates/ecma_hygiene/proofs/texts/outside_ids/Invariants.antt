use Rattle.std.proofs.Common.{◌≡◌, ◌||◌, drop}
use Rattle.ecma_hygiene.specs.Ids.{Id}
use Rattle.ecma_hygiene.specs.Sets.{has_id, is_declared_outside}
use Rattle.ecma_hygiene.proofs.texts.outside_ids.Given as goal

-- one that is there, or one of the others
abbrev pub invariant-loop-sight : goal.invariant-loop-sight
invariant-loop-sight l = (id : Id) → (has_id l.ids id || is_declared_outside (drop l.sight-index l.sight-items) id) ≡ is_declared_outside l.seen id
