-- A node that is taken apart and put together.
use Rattle.std.proofs.Common.{◌≡◌}
use Rattle.ecma_tree.specs.Nodes.{node_of}
use Rattle.ecma_tree.specs.declared.node.Node.{Node, out-Node}
use Rattle.ecma_tree.specs.declared.node.Node.TheViews.{roll-out-Node}

-- is as it was
pub rebuilt : (n : Node) → node_of (out-Node n).span (out-Node n).kind (out-Node n).children ≡ n
rebuilt n = roll-out-Node n
