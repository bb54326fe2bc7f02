use Rattle.std.proofs.Common.{◌+◌, ◌*◌}
use Rattle.ecma_tree.specs.declared.node.Node.{size-Node}
use Rattle.ecma_lower_enums.proofs.names.+under.Given as goal

abbrev pub decreases-name_under : goal.decreases-name_under
decreases-name_under l = 2 * size-Node l.node.now + 1

abbrev pub decreases-name_under_at : goal.decreases-name_under_at
decreases-name_under_at l = 2 * size-Node l.node.now
