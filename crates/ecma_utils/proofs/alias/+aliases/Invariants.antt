use Rattle.std.proofs.Common.{◌+◌, ◌*◌}
use Rattle.ecma_tree.specs.declared.node.Node.{size-Node}
use Rattle.ecma_utils.proofs.alias.+aliases.Given as goal

abbrev pub decreases-alias_text : goal.decreases-alias_text
decreases-alias_text l = 2 * size-Node l.node.now + 1

abbrev pub decreases-alias_at : goal.decreases-alias_at
decreases-alias_at l = 2 * size-Node l.node.now
