use Rattle.std.proofs.Common.{◌≡◌, drop}
use Rattle.ecma_scope.specs.Located.{has_merged}
use Rattle.ecma_scope.proofs.conflicts.has_merged.Given as goal

-- the declarations that are left decide
abbrev pub invariant-loop-other : goal.invariant-loop-other
invariant-loop-other l = has_merged (drop l.other-index l.earlier) l.name ≡ has_merged l.fn.earlier l.name
