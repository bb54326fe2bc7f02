-- Texts as they are kept.
use Rattle.std.specs.HashMap.{get}
use Rattle.ecma_hygiene.specs.declared.rename.TextMap.{TextMap}
use Rattle.ecma_hygiene.specs.Ids.{same_id}
use Rattle.ecma_hygiene.specs.declared.spot.Standing.{Standing}
use Rattle.ecma_hygiene.specs.Renamed.{Texts, renamed_at, standing_in, written_from}
use Rattle.ecma_tree.specs.declared.node.Node.{Node, out-Node}
use Rattle.ecma_tree.specs.Nodes.{node_of}
use Rattle.std.specs.Prelude.{map}

abbrev pub texts_in : TextMap → Texts
texts_in map id = get same_id map.texts id

-- a node whose children have their texts
abbrev pub with_texts : Texts → Standing → Node → Node
with_texts texts stands node = node_of (out-Node node).span (out-Node node).kind (written_from (standing_in stands node) 0 (map (renamed_at texts) (out-Node node).children))
