use Rattle.std.proofs.Common.{◌≡◌, ◌+◌, ◌*◌, map, drop}
use Rattle.std.specs.List.{list_any}
use Rattle.ecma_tree.specs.declared.node.Node.{out-Node, size-Node}
use Rattle.ecma_tree.proofs.values.+values.Given as goal
use Rattle.ecma_tree.specs.Values.{is_value_where}

-- the children that are left decide
abbrev pub invariant-is_any_value_where-loop-child : goal.invariant-is_any_value_where-loop-child
invariant-is_any_value_where-loop-child l =
    list_any (λ b. b) (map (is_value_where l.stays) (drop l.child-index l.child-items)) ≡ list_any (λ b. b) (map (is_value_where l.stays) (out-Node l.node).children)

abbrev pub decreases-is_value_where : goal.decreases-is_value_where
decreases-is_value_where l = 3 * size-Node l.node.now + 2

abbrev pub decreases-is_value_by : goal.decreases-is_value_by
decreases-is_value_by l = 3 * size-Node l.node.now + 1

abbrev pub decreases-is_value_at_where : goal.decreases-is_value_at_where
decreases-is_value_at_where l = 3 * size-Node l.node.now

abbrev pub decreases-is_any_value_where : goal.decreases-is_any_value_where
decreases-is_any_value_where l = 3 * size-Node l.node.now
