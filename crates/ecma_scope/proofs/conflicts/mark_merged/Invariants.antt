use Rattle.std.proofs.Common.{◌≡◌, [], length}
use Rattle.ecma_scope.specs.Located.{located_marked}
use Rattle.ecma_scope.proofs.Clashing.{mark_from}
use Rattle.ecma_scope.proofs.conflicts.mark_merged.Given as goal

-- the first i are marked
abbrev pub invariant-loop-i : goal.invariant-loop-i
invariant-loop-i l = record { same : mark_from l.names l.i ≡ located_marked [] l.fn.names; size : length l.names ≡ length l.fn.names }
