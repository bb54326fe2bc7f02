use Rattle.std.proofs.Common.{◌+◌, ◌*◌}
use Rattle.ecma_tree.specs.declared.node.Node.{size-Node}
use Rattle.ecma_utils.proofs.node_ignoring_span.+feeding.Given as goal

abbrev pub decreases-feed : goal.decreases-feed
decreases-feed g l = 2 * size-Node l.node.now + 1

abbrev pub decreases-feed_at : goal.decreases-feed_at
decreases-feed_at g l = 2 * size-Node l.node.now
