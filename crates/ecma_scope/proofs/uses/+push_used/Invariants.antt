use Rattle.std.proofs.Common.{◌≡◌, ◌++◌}
use Rattle.ecma_scope.specs.Uses.{used_at}
use Rattle.ecma_scope.proofs.Using.{used_rest}
use Rattle.ecma_tree.proofs.Weights.{weight}
use Rattle.ecma_scope.proofs.uses.+push_used.Given as goal

-- what is there, and what is used in the other children
abbrev pub invariant-loop-i : goal.invariant-loop-i
invariant-loop-i l = l.ids ++ used_rest l.stands l.node l.i ≡ l.fn.ids ++ used_at l.node l.stands

abbrev pub decreases-push_used : goal.decreases-push_used
decreases-push_used l = weight l.node.now
