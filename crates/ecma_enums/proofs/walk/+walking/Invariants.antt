use Rattle.std.proofs.Common.{◌≡◌, ◌+◌, ◌*◌}
use Rattle.ecma_tree.specs.declared.node.Node.{out-Node, size-Node}
use Rattle.ecma_enums.specs.Walks.{in_order, walks_of}
use Rattle.ecma_enums.proofs.Walking.{rest_walked}
use Rattle.ecma_enums.proofs.walk.+walking.Given as goal

-- the children that are left are walked from what is known there
abbrev pub invariant-walk_children-loop-child : goal.invariant-walk_children-loop-child
invariant-walk_children-loop-child l =
    rest_walked (out-Node l.node).children l.child-index l.is_ambient l.stand ≡ in_order (walks_of l.node) l.is_ambient l.fn.stand

abbrev pub decreases-walk : goal.decreases-walk
decreases-walk l = 4 * size-Node l.node.now + 3

abbrev pub decreases-walk_enum : goal.decreases-walk_enum
decreases-walk_enum l = 4 * size-Node l.node.now + 2

abbrev pub decreases-walk_named : goal.decreases-walk_named
decreases-walk_named l = 4 * size-Node l.node.now + 1

abbrev pub decreases-walk_member : goal.decreases-walk_member
decreases-walk_member l = 4 * size-Node l.member.now + 1

abbrev pub decreases-walk_children : goal.decreases-walk_children
decreases-walk_children l = 4 * size-Node l.node.now
