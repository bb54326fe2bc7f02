-- Identifiers as nodes, and as values of their own.
use Rattle.std.specs.Prelude.{Option, Some, None, []}
use Rattle.ecma_kind.specs.declared.ident.Ident.{Ident}
use Rattle.ecma_kind.specs.declared.kind.Kind.{Kind}
use Rattle.ecma_kind.specs.declared.kind.Kind.TheVariants as kind
use Rattle.ecma_kind.specs.declared.span.Span.{Span}
use Rattle.ecma_tree.specs.declared.node.Node.{Node, out-Node}
use Rattle.ecma_tree.specs.Nodes.{node_of}

-- the node that an identifier is
abbrev pub ident_node : Ident → Node
ident_node ident = node_of ident.span (kind.Ident ident.sym ident.ctxt ident.optional) []

abbrev ident_by : Span → Kind → Option Ident
ident_by span (kind.Ident sym ctxt optional) = Some (record { span = span; ctxt = ctxt; sym = sym; optional = optional })
ident_by span _ = None

-- the identifier that a node is, if its kind is that of one
abbrev pub ident_of : Node → Option Ident
ident_of node = ident_by (out-Node node).span (out-Node node).kind
