use Rattle.std.proofs.Common.{◌≡◌, ◌+◌, ◌*◌, map, drop}
use Rattle.std.specs.List.{list_all}
use Rattle.ecma_tree.specs.declared.node.Node.{out-Node, size-Node}
use Rattle.ecma_judge.specs.Literals.{is_literal_part}
use Rattle.ecma_judge.proofs.literals.+literals.Given as goal

-- the items that are left decide
abbrev pub invariant-all_are_literals-loop-item : goal.invariant-all_are_literals-loop-item
invariant-all_are_literals-loop-item l =
    list_all (λ b. b) (map (is_literal_part l.beyond_json) (drop l.item-index l.item-items)) ≡ list_all (λ b. b) (map (is_literal_part l.beyond_json) (out-Node l.list).children)

abbrev pub decreases-is_literal_part : goal.decreases-is_literal_part
decreases-is_literal_part l = 2 * size-Node l.node.now + 1

abbrev pub decreases-is_literal_at : goal.decreases-is_literal_at
decreases-is_literal_at l = 2 * size-Node l.node.now

abbrev pub decreases-all_are_literals : goal.decreases-all_are_literals
decreases-all_are_literals l = 2 * size-Node l.list.now
