use Rattle.std.proofs.Common.{◌+◌, ◌*◌}
use Rattle.ecma_tree.specs.declared.node.Node.{size-Node}
use Rattle.ecma_enums.proofs.keys.+keys.Given as goal

abbrev pub decreases-key_under : goal.decreases-key_under
decreases-key_under l = 2 * size-Node l.node.now + 1

abbrev pub decreases-key_at : goal.decreases-key_at
decreases-key_at l = 2 * size-Node l.node.now
