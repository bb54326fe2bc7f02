-- Nodes as plain data.
use Rattle.std.specs.Prelude.{List, [], Option, Some, None}
use Rattle.ecma_kind.specs.declared.span.Span.{Span}
use Rattle.ecma_kind.specs.declared.kind.Kind.{Kind}
use Rattle.ecma_kind.specs.declared.kind.Kind.TheVariants.{Absent, List as ListKind}
use Rattle.ecma_tree.specs.declared.node.Node.{Node, roll-Node}

-- the node of these parts
abbrev pub node_of : Span → Kind → List Node → Node
node_of span kind children = roll-Node (record { span = span; kind = kind; children = children })

-- the span of what stands in no text
abbrev pub dummy_span : Span
dummy_span = record { lo = 0; hi = 0 }

-- a child that is not there
abbrev pub absent : Node
absent = node_of dummy_span Absent []

-- a list of nodes as one child
abbrev pub list_node : List Node → Node
list_node items = node_of dummy_span ListKind items

-- a child that may be missing
abbrev pub or_absent : Option Node → Node
or_absent (Some node) = node
or_absent None = absent

-- a list that may be missing
abbrev pub list_or_absent : Option (List Node) → Node
list_or_absent (Some items) = list_node items
list_or_absent None = absent
