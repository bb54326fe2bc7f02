use Rattle.std.proofs.Common.{◌≡◌, map, take}
use Rattle.ecma_tree.specs.Spans.{without_spans}
use Rattle.ecma_tree.specs.declared.node.Node.{out-Node, size-Node}
use Rattle.ecma_tree.proofs.equal.+same_but_for_spans.Given as goal

-- the first i children are equal
abbrev pub invariant-loop-i : goal.invariant-loop-i
invariant-loop-i l = map without_spans (take l.i (out-Node l.node).children) ≡ map without_spans (take l.i (out-Node l.other).children)

abbrev pub decreases-same_but_for_spans : goal.decreases-same_but_for_spans
decreases-same_but_for_spans l = size-Node l.node.now
