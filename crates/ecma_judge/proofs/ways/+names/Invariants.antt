use Rattle.std.proofs.Common.{◌+◌, ◌*◌}
use Rattle.ecma_tree.specs.declared.node.Node.{size-Node}
use Rattle.ecma_judge.proofs.ways.+names.Given as goal

abbrev pub decreases-is_name : goal.decreases-is_name
decreases-is_name l = 2 * size-Node l.node.now + 1

abbrev pub decreases-is_name_at : goal.decreases-is_name_at
decreases-is_name_at l = 2 * size-Node l.node.now
