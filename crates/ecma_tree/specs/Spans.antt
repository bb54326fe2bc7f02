-- Trees up to where their nodes stand.
use Rattle.ecma_tree.specs.declared.node.Node.{Node, Node-F}
use Rattle.ecma_tree.specs.Nodes.{dummy_span, node_of}
use Rattle.ecma_tree.specs.Rewritten.{rewritten}

abbrev pub unplaced : Node-F Node → Node
unplaced parts = node_of dummy_span parts.kind parts.children

-- the tree with no spans
abbrev pub without_spans : Node → Node
without_spans = rewritten unplaced
