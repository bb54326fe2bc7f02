-- A tree with other texts for its identifiers, in which the names that it has for others and its keys stay.
use Rattle.std.specs.Prelude.{ℕ, suc, Bool, true, false, ◌==◌, List, [], ◌∷◌, Option, Some, None, bytes_eq, codes, cond, unwrap_or}
use Rattle.ecma_kind.specs.declared.kind.Kind.{Kind}
use Rattle.ecma_kind.specs.declared.kind.Kind.TheVariants as kind
use Rattle.ecma_kind.specs.declared.span.Span.{Span}
use Rattle.ecma_tree.specs.declared.node.Node.{Node, out-Node}
use Rattle.ecma_tree.specs.Nodes.{node_of}
use Rattle.ecma_tree.specs.Sorted.{is_absent}
use Rattle.ecma_tree.specs.Layers.{from_leaves}
use Rattle.ecma_scope.specs.declared.role.Role.{Role}
use Rattle.ecma_scope.specs.declared.role.Role.TheVariants as role
use Rattle.ecma_scope.specs.Scopes.{role_in}
use Rattle.ecma_scope.specs.Resolved.{is_name}
use Rattle.ecma_hygiene.specs.declared.spot.Spot.{Spot}
use Rattle.ecma_hygiene.specs.declared.spot.Spot.TheVariants as spot
use Rattle.ecma_hygiene.specs.declared.spot.Standing.{Standing}
use Rattle.ecma_hygiene.specs.declared.expand.OldName.{OldName}
use Rattle.ecma_hygiene.specs.Ids.{Id}

-- the properties of an object are the items of the list that is its first child
abbrev pub spot_in : Spot → Kind → ℕ → Spot
spot_in s kind.ObjectLit i = cond (i == 0) spot.Properties spot.Elsewhere
spot_in spot.Properties kind.List i = spot.Property
spot_in _ k i = spot.Elsewhere

abbrev pub standing_in : Standing → Node → ℕ → Standing
standing_in stands node i = record { role = role_in stands.role node i; spot = spot_in stands.spot (out-Node node).kind i }

-- ---- one name in two meanings

abbrev pub is_sourced : Role → Bool
is_sourced role.Sourced = true
is_sourced _ = false

abbrev pub kind_is_absent : Node → Bool
kind_is_absent node = is_absent (out-Node node).kind

-- the name of a specifier that has one name
abbrev pub lone_name : List Node → Option Node
lone_name (name ∷ other ∷ []) = cond (kind_is_absent other) (Some name) None
lone_name _ = None

abbrev pub first_item : List Node → Option Node
first_item [] = None
first_item (node ∷ nodes) = Some node

-- the identifier of a shorthand pattern, which is that of its key
abbrev pub key_name : List Node → Option Node
key_name (key ∷ value ∷ []) = first_item (out-Node key).children
key_name _ = None

abbrev pub shorthand : Spot → Node → Option Node
shorthand spot.Property node = Some node
shorthand _ node = None

-- the identifier of a node whose text is also a key, or a name that the module has for others
--   ({ x }); ({ x } = a); export { x };   // x is a key too, and a name that others know
unfoldable pub shared_by : Standing → Kind → Node → Option Node
shared_by stands (kind.Ident sym ctxt optional) node = shorthand stands.spot node
shared_by stands (kind.ImportNamedSpecifier is_type_only) node = lone_name (out-Node node).children
shared_by stands (kind.ExportNamedSpecifier is_type_only) node = cond (is_sourced stands.role) None (lone_name (out-Node node).children)
shared_by stands kind.AssignPatProp node = key_name (out-Node node).children
shared_by stands _ node = None

abbrev pub shared_name : Standing → Node → Option Node
shared_name stands node = shared_by stands (out-Node node).kind node

-- ---- the texts

-- the texts of the ids that get one
abbrev pub Texts : Type 0
Texts = Id → Option (List ℕ)

-- the text of an id: the one that it gets, or its own
abbrev pub text_of : Texts → Id → List ℕ
text_of texts id = unwrap_or (texts id) id.0

abbrev pub changed_from : Option (List ℕ) → List ℕ → Span → Option OldName
changed_from (Some text) sym span = cond (bytes_eq text sym) None (Some (record { text = sym; span = span }))
changed_from None sym span = None

abbrev pub old_name_by : Texts → Span → Kind → Option OldName
old_name_by texts span (kind.Ident sym ctxt optional) = changed_from (texts (sym, ctxt)) sym span
old_name_by texts span _ = None

-- the old text of an identifier that gets another, and where it stands
abbrev pub old_name : Texts → Option Node → Option OldName
old_name texts (Some node) = old_name_by texts (out-Node node).span (out-Node node).kind
old_name texts None = None

abbrev pub kind_with_text : Texts → Bool → Kind → Kind
kind_with_text texts false (kind.Ident sym ctxt optional) = kind.Ident (text_of texts (sym, ctxt)) ctxt optional
kind_with_text texts _ k = k

-- ---- two names where there was one

abbrev pub key_of : OldName → Node
key_of old = node_of old.span (kind.IdentName old.text) []

-- the key that sets the prototype where it stands in no brackets (ECMAScript, B.3.1)
abbrev pub proto : List ℕ
proto = codes "__proto__"

-- that text between quotes
abbrev pub quoted_proto : List ℕ
quoted_proto = codes "\"__proto__\""

-- the text of it
abbrev pub proto_literal : Kind
proto_literal = kind.Str proto (Some quoted_proto)

--   ["__proto__"]
abbrev pub proto_in_brackets : Span → Node
proto_in_brackets span = node_of span kind.ComputedPropName (node_of span proto_literal [] ∷ [])

-- the key of a property that is written in the place of a shorthand: it makes a property, as the shorthand does (ECMAScript, 13.2.5.5)
abbrev pub property_key : OldName → Node
property_key old = cond (bytes_eq old.text proto) (proto_in_brackets old.span) (key_of old)

-- the name as it was, for others
abbrev pub name_of : OldName → Node
name_of old = node_of old.span (kind.Ident old.text 0 false) []

abbrev pub two_names : OldName → List Node → List Node
two_names old (name ∷ other ∷ []) = name ∷ name_of old ∷ []
two_names old children = children

abbrev pub with_default : Span → Node → Node → Node
with_default span pattern value = cond (kind_is_absent value) pattern (node_of span kind.AssignPat (pattern ∷ value ∷ []))

--   ({ x = 1 } = a);   // where x gets x1: ({ x: x1 = 1 } = a)
abbrev pub two_patterns : OldName → Node → List Node → Node
two_patterns old written (pattern ∷ value ∷ []) = node_of (out-Node written).span kind.KeyValuePatProp (key_of old ∷ with_default (out-Node written).span pattern value ∷ [])
two_patterns old written children = written

-- a node that is written so, with the old text of its shared name beside the new one
--   ({ x });   // where x gets x1: ({ x: x1 })
--   ({ __proto__ });   // where __proto__ gets __proto__1: ({ ["__proto__"]: __proto__1 })
--   export { x }; import { y } from "m";   // where y gets y1: export { x1 as x }; import { y as y1 } from "m"
unfoldable pub expanded_by : Kind → OldName → Node → Node
expanded_by (kind.Ident sym ctxt optional) old written = node_of (out-Node written).span kind.KeyValueProp (property_key old ∷ written ∷ [])
expanded_by (kind.ImportNamedSpecifier is_type_only) old written = node_of (out-Node written).span (out-Node written).kind (two_names old (out-Node written).children)
expanded_by (kind.ExportNamedSpecifier is_type_only) old written = node_of (out-Node written).span (out-Node written).kind (two_names old (out-Node written).children)
expanded_by kind.AssignPatProp old written = two_patterns old written (out-Node written).children
expanded_by _ old written = written

abbrev pub expanded : Option OldName → Node → Node
expanded (Some old) written = expanded_by (out-Node written).kind old written
expanded None written = written

-- ---- trees

-- what is made of children, of which the first is the one at i
abbrev pub written_from : (ℕ → Standing) → ℕ → List (Standing → Node) → List Node
written_from stands i [] = []
written_from stands i (child ∷ children) = child (stands i) ∷ written_from stands (suc i) children

abbrev pub written_of : Texts → Standing → Node → List Node → Node
written_of texts stands node children = node_of (out-Node node).span (kind_with_text texts (is_name stands.role) (out-Node node).kind) children

abbrev pub renamed_step : Texts → Node → List (Standing → Node) → Standing → Node
renamed_step texts node children stands =
    expanded (old_name texts (shared_name stands node)) (written_of texts stands node (written_from (standing_in stands node) 0 children))

-- a node in which identifiers have these texts
abbrev pub renamed_at : Texts → Node → Standing → Node
renamed_at texts = from_leaves (Standing → Node) (renamed_step texts)

abbrev pub at_root : Standing
at_root = record { role = role.Root; spot = spot.Elsewhere }

abbrev pub renamed : Texts → Node → Node
renamed texts tree = renamed_at texts tree at_root
