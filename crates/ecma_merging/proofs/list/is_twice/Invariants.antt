use Rattle.std.proofs.Common.{◌≡◌, drop}
use Rattle.ecma_merging.specs.Merging.{is_twice}
use Rattle.ecma_merging.proofs.list.is_twice.Given as goal

-- the members that are left decide
abbrev pub invariant-loop-other : goal.invariant-loop-other
invariant-loop-other l = is_twice (drop l.other-index l.earlier) l.given ≡ is_twice l.earlier l.given
