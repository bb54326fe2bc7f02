-- Names and texts that are written out.
use Rattle.std.specs.Prelude.{ℕ, false, List, [], None}
use Rattle.ecma_kind.specs.declared.ident.Ident.{Ident}
use Rattle.ecma_kind.specs.declared.kind.Kind.TheVariants as kind
use Rattle.ecma_kind.specs.declared.span.Span.{Span}
use Rattle.ecma_tree.specs.declared.node.Node.{Node}
use Rattle.ecma_tree.specs.Idents.{ident_node}
use Rattle.ecma_tree.specs.Nodes.{node_of}

-- an identifier of this context and text
abbrev pub quoted_ident : ℕ → Span → List ℕ → Ident
quoted_ident ctxt span text = record { span = span; ctxt = ctxt; sym = text; optional = false }

--   a
abbrev pub name_of : ℕ → Span → List ℕ → Node
name_of ctxt span text = ident_node (quoted_ident ctxt span text)

--   "a"
abbrev pub text_of : Span → List ℕ → Node
text_of span text = node_of span (kind.Str text None) []

--   null
abbrev pub null_of : Span → Node
null_of span = node_of span kind.Null []
