use Rattle.std.proofs.Common.{◌≡◌}
use Rattle.ecma_tree.proofs.Weights.{weight}
use Rattle.ecma_bind.proofs.Fronted.{front_bound}
use Rattle.ecma_bind.proofs.binding.+bind_at.Given as goal

-- the names in the first i children are bound
abbrev pub invariant-loop-i : goal.invariant-loop-i
invariant-loop-i l = l.node ≡ front_bound l.role l.fn.node l.i

abbrev pub decreases-bind_at : goal.decreases-bind_at
decreases-bind_at l = weight l.node.now
