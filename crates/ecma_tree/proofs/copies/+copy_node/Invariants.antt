use Rattle.std.proofs.Common.{◌≡◌, take}
use Rattle.ecma_tree.proofs.copies.+copy_node.Given as goal

abbrev pub invariant-loop-child : goal.invariant-loop-child
invariant-loop-child l = l.children ≡ take l.child-index l.child-items
