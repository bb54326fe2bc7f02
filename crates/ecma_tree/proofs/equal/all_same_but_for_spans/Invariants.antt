use Rattle.std.proofs.Common.{◌≡◌, map, take, length}
use Rattle.ecma_tree.specs.Spans.{without_spans}
use Rattle.ecma_tree.proofs.equal.all_same_but_for_spans.Given as goal

-- the trees so far are equal
abbrev pub invariant-loop-node : goal.invariant-loop-node
invariant-loop-node l =
    (map without_spans (take (length l.yielded) l.nodes) ≡ map without_spans (take (length l.yielded) l.others)) × (goal.iterator-loop-node).can_next l.node-iterator ×
    (goal.iterator-loop-node).is_finite l.node-iterator
