use Rattle.std.proofs.Common.{◌≡◌}
use Rattle.ecma_tree.specs.Sorted.{has_shape}
use Rattle.ecma_tree.specs.declared.node.Node.{size-Node}
use Rattle.ecma_tree.proofs.Shaping.{rest_have_shapes}
use Rattle.ecma_tree.proofs.sorted.+has_shape.Given as goal

-- the children that are left decide
abbrev pub invariant-loop-i : goal.invariant-loop-i
invariant-loop-i l = has_shape l.node l.shape ≡ rest_have_shapes l.node l.shape l.i

abbrev pub decreases-has_shape : goal.decreases-has_shape
decreases-has_shape l = size-Node l.node.now
