use Rattle.std.proofs.Common.{◌≡◌, ◌++◌, ◌+◌, ◌*◌}
use Rattle.ecma_tree.specs.declared.node.Node.{size-Node}
use Rattle.ecma_scope.specs.Located.{located}
use Rattle.ecma_scope.proofs.Naming.{found_from}
use Rattle.ecma_scope.proofs.names.+declaring.Given as goal

-- what is there, and what the other children give
abbrev pub invariant-push_declarations-loop-i : goal.invariant-push_declarations-loop-i
invariant-push_declarations-loop-i l = l.names ++ found_from l.sought l.node l.i ≡ l.fn.names ++ located l.node l.sought

abbrev pub decreases-push_declarations : goal.decreases-push_declarations
decreases-push_declarations l = 2 * size-Node l.node.now

abbrev pub decreases-push_found : goal.decreases-push_found
decreases-push_found l = 2 * size-Node l.child.now + 1
