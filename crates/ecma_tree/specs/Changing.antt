-- What changes every node by itself, and no node's place among the others.
use Rattle.ecma_kind.specs.declared.span.Span.{Span}
use Rattle.ecma_kind.specs.declared.kind.Kind.{Kind}
use Rattle.ecma_tree.specs.declared.node.Node.{Node, Node-F}
use Rattle.ecma_tree.specs.Nodes.{node_of}
use Rattle.ecma_tree.specs.Rewritten.{rewritten}

abbrev pub changed_here : (Span → Span) → (Kind → Kind) → Node-F Node → Node
changed_here span_to kind_to parts = node_of (span_to parts.span) (kind_to parts.kind) parts.children

-- the tree with span_to of each node's span, and kind_to of each node's kind
abbrev pub changed : (Span → Span) → (Kind → Kind) → Node → Node
changed span_to kind_to = rewritten (changed_here span_to kind_to)
