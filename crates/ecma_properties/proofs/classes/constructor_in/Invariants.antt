use Rattle.std.proofs.Common.{◌≡◌, drop}
use Rattle.ecma_properties.specs.Classes.{constructor_in}
use Rattle.ecma_properties.proofs.classes.constructor_in.Given as goal

-- it is among the members that are left
abbrev pub invariant-loop-member : goal.invariant-loop-member
invariant-loop-member l = constructor_in (drop l.member-index l.members) ≡ constructor_in l.members
