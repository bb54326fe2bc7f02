use Rattle.std.proofs.Common.{◌≡◌, ◌++◌, ◌&&◌, not, drop, filter}
use Rattle.ecma_hygiene.specs.Ids.{Id}
use Rattle.ecma_hygiene.specs.Sets.{has_id, has_new}
use Rattle.ecma_hygiene.specs.Texts.{declared_in}
use Rattle.ecma_hygiene.proofs.texts.changing_declarations.Given as goal

-- those that are there, and those of the others
abbrev pub invariant-loop-sight : goal.invariant-loop-sight
invariant-loop-sight l = l.found ++ filter (λ (id : Id). not (has_new l.new id) && has_id l.met id) (declared_in (drop l.sight-index l.sight-items)) ≡ filter (λ (id : Id). not (has_new l.new id) && has_id l.met id) (declared_in l.seen)
