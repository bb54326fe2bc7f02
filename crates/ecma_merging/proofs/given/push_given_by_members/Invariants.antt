use Rattle.std.proofs.Common.{◌≡◌, ◌++◌}
use Rattle.std.specs.List.{flat_map}
use Rattle.ecma_merging.specs.Given.{given_by_member}
use Rattle.ecma_merging.proofs.Among.{and_given}
use Rattle.ecma_merging.proofs.given.push_given_by_members.Given as goal

-- what is there, and what the other members give
abbrev pub invariant-loop-member : goal.invariant-loop-member
invariant-loop-member l = and_given (given_by_member l.of) l.members l.member-index l.given ≡ l.fn.given ++ flat_map (given_by_member l.of) l.members
