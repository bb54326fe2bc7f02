use Rattle.std.proofs.Common.{◌≡◌, ◌+◌, ◌-◌, ◌^◌, ◌≤◌}
use Rattle.ecma_scope.specs.Needs.{capped, needed_at}
use Rattle.ecma_scope.proofs.Needing.{needed_from}
use Rattle.ecma_tree.proofs.Weights.{weight}
use Rattle.ecma_scope.proofs.needed.+needed_at.Given as goal

-- what is counted, and what the other children need
abbrev pub invariant-loop-i : goal.invariant-loop-i
invariant-loop-i l = record {
  so_far : capped (l.total + needed_from l.role l.node l.i) ≡ capped (needed_at l.node l.role);
  fits : l.total ≤ 2 ^ 64 - 1;
}

abbrev pub decreases-needed_at : goal.decreases-needed_at
decreases-needed_at l = weight l.node.now
