-- A node whose children are renamed.
use Rattle.std.specs.Prelude.{map}
use Rattle.ecma_tree.specs.declared.node.Node.{Node, out-Node}
use Rattle.ecma_renamers.specs.declared.spot.Spot.{Spot}
use Rattle.ecma_renamers.specs.Renaming.{Renaming, renamed_at, written_of}

abbrev pub with_renamed : Renaming → Spot → Node → Node
with_renamed r s node = written_of r s node (map (renamed_at r) (out-Node node).children)
