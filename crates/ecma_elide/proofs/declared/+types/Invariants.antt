use Rattle.std.proofs.Common.{◌≡◌, ◌++◌, ◌+◌, ◌*◌}
use Rattle.ecma_tree.specs.declared.node.Node.{size-Node}
use Rattle.ecma_elide.specs.DeclaredNames.{types_in}
use Rattle.ecma_elide.proofs.Naming.{rest_types}
use Rattle.ecma_elide.proofs.declared.+types.Given as goal

-- what is there, and what the other children give
abbrev pub invariant-push_types-loop-i : goal.invariant-push_types-loop-i
invariant-push_types-loop-i l = l.texts ++ rest_types l.typed l.node l.i ≡ l.fn.texts ++ types_in l.node l.typed

abbrev pub decreases-push_types : goal.decreases-push_types
decreases-push_types l = 2 * size-Node l.node.now

abbrev pub decreases-push_types_within : goal.decreases-push_types_within
decreases-push_types_within l = 2 * size-Node l.child.now + 1
