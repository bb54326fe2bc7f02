use Rattle.std.proofs.Common.{◌≡◌}
use Rattle.ecma_rules.specs.Baring.{bared}
use Rattle.ecma_rules.proofs.types.+bare_types.Given as goal
use Rattle.ecma_tree.proofs.Fronts.{front}
use Rattle.ecma_tree.proofs.Weights.{weight}

-- of what stays, the first i are bared
abbrev pub invariant-loop-i : goal.invariant-loop-i
invariant-loop-i l = l.tree ≡ front bared (λ span. span) (λ kind. kind) l.initial.tree l.i

abbrev pub decreases-bare_types : goal.decreases-bare_types
decreases-bare_types l = weight l.tree.now
