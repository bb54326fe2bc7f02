use Rattle.std.proofs.Common.{◌+◌, ◌*◌}
use Rattle.ecma_tree.specs.declared.node.Node.{size-Node}
use Rattle.ecma_judge.proofs.simple.+simple.Given as goal

abbrev pub decreases-is_simple : goal.decreases-is_simple
decreases-is_simple l = 3 * size-Node l.node.now + 2

abbrev pub decreases-is_simple_member : goal.decreases-is_simple_member
decreases-is_simple_member l = 3 * size-Node l.member.now + 1

abbrev pub decreases-is_simple_at : goal.decreases-is_simple_at
decreases-is_simple_at l = 3 * size-Node l.node.now
