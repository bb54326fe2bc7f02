use Rattle.std.proofs.Common.{◌≡◌, take}
use Rattle.ecma_tree.specs.declared.node.Node.{out-Node, size-Node}
use Rattle.ecma_forest.specs.Trees.{node}
use Rattle.ecma_forest.proofs.convert.+to_node.Given as goal

abbrev pub invariant-loop-i : goal.invariant-loop-i
invariant-loop-i l = l.children ≡ take l.i (out-Node (node l.forest l.at)).children

abbrev pub decreases-to_node : goal.decreases-to_node
decreases-to_node l = size-Node (node l.forest.now l.at)
