use Rattle.std.proofs.Common.{◌≡◌, drop}
use Rattle.std.specs.List.{list_any}
use Rattle.ecma_properties.specs.Keys.{keeps_key}
use Rattle.ecma_properties.proofs.keys.any_keeps_key.Given as goal

-- the members that are left decide
abbrev pub invariant-loop-member : goal.invariant-loop-member
invariant-loop-member l = list_any keeps_key (drop l.member-index l.members) ≡ list_any keeps_key l.members
