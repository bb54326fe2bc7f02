use Rattle.std.proofs.Common.{◌≡◌, ◌++◌, drop}
use Rattle.ecma_lower_enums.specs.Names.{member_names}
use Rattle.ecma_lower_enums.proofs.names.push_members.Given as goal

-- those that are there, and those of the members that are left
abbrev pub invariant-loop-member : goal.invariant-loop-member
invariant-loop-member l = l.names ++ member_names l.of (drop l.member-index l.members) ≡ l.fn.names ++ member_names l.of l.members
