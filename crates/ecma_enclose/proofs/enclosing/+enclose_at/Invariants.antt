use Rattle.std.proofs.Common.{◌≡◌}
use Rattle.ecma_tree.proofs.Weights.{weight}
use Rattle.ecma_enclose.proofs.Fronted.{front_enclosed}
use Rattle.ecma_enclose.proofs.enclosing.+enclose_at.Given as goal

-- the first i children have their parentheses
abbrev pub invariant-loop-i : goal.invariant-loop-i
invariant-loop-i l = l.node ≡ front_enclosed l.place l.fn.node l.i

abbrev pub decreases-enclose_at : goal.decreases-enclose_at
decreases-enclose_at l = weight l.node.now
