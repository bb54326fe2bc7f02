use Rattle.std.proofs.Common.{◌≡◌, ◌+◌, ◌*◌, map, drop}
use Rattle.std.specs.List.{list_all}
use Rattle.ecma_tree.specs.declared.node.Node.{out-Node, size-Node}
use Rattle.ecma_judge.specs.Values.{is_immutable}
use Rattle.ecma_judge.proofs.forms.+immutables.Given as goal

-- the children that are left decide
abbrev pub invariant-all_are_immutable-loop-child : goal.invariant-all_are_immutable-loop-child
invariant-all_are_immutable-loop-child l =
    list_all (λ b. b) (map is_immutable (drop l.child-index l.child-items)) ≡ list_all (λ b. b) (map is_immutable (out-Node l.node).children)

abbrev pub decreases-is_immutable : goal.decreases-is_immutable
decreases-is_immutable l = 2 * size-Node l.node.now + 1

abbrev pub decreases-is_immutable_at : goal.decreases-is_immutable_at
decreases-is_immutable_at l = 2 * size-Node l.node.now

abbrev pub decreases-all_are_immutable : goal.decreases-all_are_immutable
decreases-all_are_immutable l = 2 * size-Node l.node.now
