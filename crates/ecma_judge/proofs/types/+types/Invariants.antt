use Rattle.std.proofs.Common.{◌+◌, ◌*◌}
use Rattle.ecma_tree.specs.declared.node.Node.{size-Node}
use Rattle.ecma_judge.proofs.types.+types.Given as goal

abbrev pub decreases-type_of : goal.decreases-type_of
decreases-type_of l = 2 * size-Node l.node.now + 1

abbrev pub decreases-type_at : goal.decreases-type_at
decreases-type_at l = 2 * size-Node l.node.now
