use Rattle.std.proofs.Common.{◌≡◌, ◌++◌, drop, filter}
use Rattle.ecma_hygiene.specs.Sets.{has_new}
use Rattle.ecma_hygiene.specs.Texts.{declared_in}
use Rattle.ecma_hygiene.proofs.texts.new_declarations.Given as goal

-- those that are there, and those of the others
abbrev pub invariant-loop-sight : goal.invariant-loop-sight
invariant-loop-sight l = l.found ++ filter (has_new l.new) (declared_in (drop l.sight-index l.sight-items)) ≡ filter (has_new l.new) (declared_in l.seen)
