use Rattle.std.proofs.Common.{◌≡◌, ◌++◌, ◌+◌, ◌*◌}
use Rattle.ecma_tree.specs.declared.node.Node.{size-Node}
use Rattle.ecma_elide.specs.DeclaredNames.{values_in}
use Rattle.ecma_elide.proofs.Naming.{rest_values}
use Rattle.ecma_elide.proofs.declared.+values.Given as goal

-- what is there, and what the other children give
abbrev pub invariant-push_values-loop-i : goal.invariant-push_values-loop-i
invariant-push_values-loop-i l = l.texts ++ rest_values l.sought l.node l.i ≡ l.fn.texts ++ values_in l.node l.sought

abbrev pub decreases-push_values : goal.decreases-push_values
decreases-push_values l = 2 * size-Node l.node.now

abbrev pub decreases-push_values_within : goal.decreases-push_values_within
decreases-push_values_within l = 2 * size-Node l.child.now + 1
