use Rattle.std.proofs.Common.{◌≡◌, ◌++◌, ◌+◌, ◌*◌}
use Rattle.ecma_tree.specs.declared.node.Node.{size-Node}
use Rattle.ecma_exports.specs.Places.{texts_in}
use Rattle.ecma_exports.proofs.Naming.{rest_texts}
use Rattle.ecma_exports.proofs.names.+texts.Given as goal

-- what is there, and what the other children give
abbrev pub invariant-push_texts-loop-i : goal.invariant-push_texts-loop-i
invariant-push_texts-loop-i l = l.texts ++ rest_texts l.free l.place l.node l.i ≡ l.fn.texts ++ texts_in l.free l.node l.place

abbrev pub decreases-push_texts : goal.decreases-push_texts
decreases-push_texts l = 2 * size-Node l.node.now

abbrev pub decreases-push_within : goal.decreases-push_within
decreases-push_within l = 2 * size-Node l.child.now + 1
