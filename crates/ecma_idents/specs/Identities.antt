-- What names a variable: its text and its context.
use Rattle.std.specs.Prelude.{◌≡◌, ℕ, Bool, false, List, [], ◌∷◌, Option, Some, None, slice_get}
use Rattle.std.specs.Option.{is_some, option_and_then}
use Rattle.ecma_kind.specs.declared.ident.Ident.{Ident}
use Rattle.ecma_kind.specs.declared.kind.Kind.{Kind}
use Rattle.ecma_kind.specs.declared.kind.Kind.TheVariants as kind
use Rattle.ecma_tree.specs.declared.node.Node.{Node, out-Node}
use Rattle.ecma_tree.specs.Idents.{ident_node, ident_of}
use Rattle.ecma_tree.specs.Nodes.{absent, node_of}

-- a text and a context
abbrev pub Id : Type 0
Id = List ℕ × ℕ

abbrev pub ident_id : Ident → Id
ident_id ident = (ident.sym, ident.ctxt)

-- a text alone stands for the identifier in the empty context
abbrev pub text_id : List ℕ → Id
text_id text = (text, 0)

-- without the `?` behind it
abbrev pub plain_ident : Ident → Ident
plain_ident ident = record ident { optional = false }

-- ---- declared names

--   x
abbrev pub binding_of : Ident → Node
binding_of ident = node_of ident.span kind.BindingIdent (ident_node ident ∷ absent ∷ [])

abbrev pub name_node_by : Kind → Node → List Node → Option Node
name_node_by kind.BindingIdent node children = slice_get children 0
name_node_by _ node children = Some node

-- the node of the name: the first child of a declared name, or the node itself
abbrev pub name_node : Node → Option Node
name_node node = name_node_by (out-Node node).kind node (out-Node node).children

abbrev pub name_in : Node → Option Ident
name_in node = option_and_then ident_of (name_node node)

abbrev pub has_name : Node → Bool
has_name node = is_some (name_in node)

abbrev pub id_or_none : Option Ident → Id
id_or_none (Some ident) = ident_id ident
id_or_none None = ([], 0)

-- the id of a node that has a name
abbrev pub node_id : Node → Id
node_id node = id_or_none (name_in node)

-- ---- the law of what is made of an identifier and gives its id

-- what is made of an identifier has its id; of a text alone, that of the empty context
pub record IdsComeBack : Type 0 where
  pub ident : (i : Ident) → ident_id (plain_ident i) ≡ ident_id i
  pub declared_name : (i : Ident) → node_id (binding_of i) ≡ ident_id i
  pub text : (i : Ident) → text_id i.sym ≡ (i.sym, 0)
