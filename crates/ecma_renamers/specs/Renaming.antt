-- A tree in which identifiers become others, and in which the names that it has for others and its keys stay. Types are never entered.
use Rattle.std.specs.Prelude.{ℕ, suc, Bool, true, false, ◌&&◌, ◌==◌, List, [], ◌∷◌, Option, Some, None, if◌then◌else◌}
use Rattle.std.specs.Option.{option_and_then}
use Rattle.ecma_kind.specs.declared.ident.Ident.{Ident}
use Rattle.ecma_kind.specs.declared.kind.Kind.{Kind}
use Rattle.ecma_kind.specs.declared.kind.Kind.TheVariants as kind
use Rattle.ecma_kind.specs.declared.span.Span.{Span}
use Rattle.ecma_tree.specs.declared.node.Node.{Node, out-Node}
use Rattle.ecma_tree.specs.Idents.{ident_of}
use Rattle.ecma_tree.specs.Layers.{from_leaves}
use Rattle.ecma_tree.specs.Nodes.{node_of}
use Rattle.ecma_tree.specs.Sorted.{is_absent}
use Rattle.ecma_renamers.specs.declared.spot.Spot.{Spot}
use Rattle.ecma_renamers.specs.declared.spot.Spot.TheVariants as spot

-- what a renaming does
pub record Renaming : Type 0 where
  -- the identifier that one becomes, if it does
  pub change : Ident → Option Ident
  -- whether a name that is also a key, or a name for others, gets a second one where it becomes another
  pub parts : Ident → Ident → Bool
  -- whether a specifier of this kind keeps the name that others know
  pub splits : Kind → Bool

-- ---- places

abbrev pub is_type : Kind → Bool
is_type kind.TsTypeAnn = true
is_type kind.TsType = true
is_type kind.TsTypeParamDecl = true
is_type kind.TsTypeParamInstantiation = true
is_type (kind.TsInterfaceDecl declare) = true
is_type (kind.TsTypeAliasDecl declare) = true
is_type _ = false

-- whether nothing changes in a node: it is a type, or a name that stays
abbrev pub is_kept : Spot → Kind → Bool
is_kept spot.Kept k = true
is_kept _ k = is_type k

-- the properties of an object are the items of the list that is its first child
abbrev pub spot_by : Spot → Kind → ℕ → Spot
spot_by s kind.ObjectLit i = if i == 0 then spot.Properties else spot.Elsewhere
spot_by spot.Properties kind.List i = spot.Property
spot_by _ k i = spot.Elsewhere

-- the second name of a specifier that is split stays
abbrev pub spot_in : Renaming → Spot → Kind → ℕ → Spot
spot_in r s k i = if r.splits k && i == 1 then spot.Kept else spot_by s k i

-- ---- one name in two meanings

abbrev pub kind_is_absent : Node → Bool
kind_is_absent node = is_absent (out-Node node).kind

-- the name of a specifier that has one name
abbrev pub lone_name : List Node → Option Node
lone_name (name ∷ other ∷ []) = if kind_is_absent other then Some name else None
lone_name _ = None

abbrev pub first_item : List Node → Option Node
first_item [] = None
first_item (node ∷ nodes) = Some node

-- the identifier of a shorthand pattern, which is that of its key
abbrev pub key_name : List Node → Option Node
key_name (key ∷ value ∷ []) = first_item (out-Node key).children
key_name _ = None

abbrev pub shorthand : Spot → Node → Option Node
shorthand spot.Property node = Some node
shorthand _ node = None

abbrev pub split_name : Renaming → Node → Option Node
split_name r node = if r.splits (out-Node node).kind then lone_name (out-Node node).children else None

-- the identifier of a node that is also a key, or a name that others know
--   ({ x }); ({ x } = a); export { x };   // x is a key too, and a name that others know
unfoldable pub shared_by : Renaming → Spot → Kind → Node → Option Node
shared_by r s (kind.Ident sym ctxt optional) node = shorthand s node
shared_by r s (kind.ImportNamedSpecifier is_type_only) node = split_name r node
shared_by r s (kind.ExportNamedSpecifier is_type_only) node = split_name r node
shared_by r s kind.AssignPatProp node = key_name (out-Node node).children
shared_by r s _ node = None

abbrev pub shared_name : Renaming → Spot → Node → Option Node
shared_name r s node = shared_by r s (out-Node node).kind node

-- ---- identifiers

-- the identifier that a node becomes, if it is one and becomes another
abbrev pub new_ident : Renaming → Node → Option Ident
new_ident r node = option_and_then r.change (ident_of node)

abbrev pub parted : Renaming → Ident → Option Ident → Option Ident
parted r old (Some new) = if r.parts old new then Some old else None
parted r old None = None

abbrev pub old_by : Renaming → Option Ident → Option Ident
old_by r (Some old) = parted r old (r.change old)
old_by r None = None

abbrev pub old_of : Renaming → Node → Option Ident
old_of r name = old_by r (ident_of name)

-- a shared name that gets a second one beside it, as it was
abbrev pub old_ident : Renaming → Option Node → Option Ident
old_ident r (Some name) = old_of r name
old_ident r None = None

abbrev pub with_ident : Option Ident → Node → Node
with_ident (Some ident) node = node_of ident.span (kind.Ident ident.sym ident.ctxt ident.optional) (out-Node node).children
with_ident None node = node

-- ---- two names where there was one

abbrev pub key_of : Ident → Node
key_of old = node_of old.span (kind.IdentName old.sym) []

-- the name as it was, for others
abbrev pub name_of : Ident → Node
name_of old = node_of old.span (kind.Ident old.sym 0 false) []

abbrev pub two_names : Ident → List Node → List Node
two_names old (name ∷ other ∷ []) = name ∷ name_of old ∷ []
two_names old children = children

abbrev pub with_default : Span → Node → Node → Node
with_default span pattern value = if kind_is_absent value then pattern else node_of span kind.AssignPat (pattern ∷ value ∷ [])

--   ({ x = 1 } = a);   // where x becomes y: ({ x: y = 1 } = a)
abbrev pub two_patterns : Ident → Node → List Node → Node
two_patterns old written (pattern ∷ value ∷ []) = node_of (out-Node written).span kind.KeyValuePatProp (key_of old ∷ with_default (out-Node written).span pattern value ∷ [])
two_patterns old written children = written

-- a node of this span that is written so, with its shared name as it was beside the new one
--   ({ x });        // where x becomes y: ({ x: y })
--   export { x };   // export { y as x };
unfoldable pub expanded_by : Kind → Span → Ident → Node → Node
expanded_by (kind.Ident sym ctxt optional) span old written = node_of span kind.KeyValueProp (key_of old ∷ written ∷ [])
expanded_by (kind.ImportNamedSpecifier is_type_only) span old written = node_of (out-Node written).span (out-Node written).kind (two_names old (out-Node written).children)
expanded_by (kind.ExportNamedSpecifier is_type_only) span old written = node_of (out-Node written).span (out-Node written).kind (two_names old (out-Node written).children)
expanded_by kind.AssignPatProp span old written = two_patterns old written (out-Node written).children
expanded_by _ span old written = written

abbrev pub expanded : Span → Option Ident → Node → Node
expanded span (Some old) written = expanded_by (out-Node written).kind span old written
expanded span None written = written

-- ---- trees

-- what is made of children, of which the first is the one at i
abbrev pub written_from : (ℕ → Spot) → ℕ → List (Spot → Node) → List Node
written_from spots i [] = []
written_from spots i (child ∷ children) = child (spots i) ∷ written_from spots (suc i) children

abbrev pub written_of : Renaming → Spot → Node → List (Spot → Node) → Node
written_of r s node children = node_of (out-Node node).span (out-Node node).kind (written_from (spot_in r s (out-Node node).kind) 0 children)

abbrev pub changed_node : Renaming → Spot → Node → List (Spot → Node) → Node
changed_node r s node children = expanded (out-Node node).span (old_ident r (shared_name r s node)) (with_ident (new_ident r node) (written_of r s node children))

abbrev pub renamed_step : Renaming → Node → List (Spot → Node) → Spot → Node
renamed_step r node children s = if is_kept s (out-Node node).kind then node else changed_node r s node children

-- a node in which identifiers become others
abbrev pub renamed_at : Renaming → Node → Spot → Node
renamed_at r = from_leaves (Spot → Node) (renamed_step r)

abbrev pub renamed : Renaming → Node → Node
renamed r tree = renamed_at r tree spot.Elsewhere
