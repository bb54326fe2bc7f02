use Rattle.std.proofs.Common.{◌≡◌, drop}
use Rattle.std.specs.List.{list_any}
use Rattle.ecma_judge.specs.Effects.{has_static_accessor, is_static_accessor}
use Rattle.ecma_judge.specs.Parts.{has_kind}
use Rattle.ecma_judge.proofs.members.has_static_accessor.Given as goal

-- the members that are left decide
abbrev pub invariant-loop-member : goal.invariant-loop-member
invariant-loop-member l = list_any (has_kind is_static_accessor) (drop l.member-index l.member-items) ≡ has_static_accessor l.members
