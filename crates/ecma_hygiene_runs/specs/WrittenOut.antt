-- Trees whose shorthands are written out: `{ a }` as `{ a: a }` in object literals and patterns, and specifiers with both names.
use Rattle.std.specs.Prelude.{ℕ, List, [], ◌∷◌, map, Option, Some, None, false, bytes_eq, cond}
use Rattle.ecma_kind.specs.declared.kind.Kind.{Kind}
use Rattle.ecma_kind.specs.declared.kind.Kind.TheVariants as kind
use Rattle.ecma_kind.specs.declared.span.Span.{Span}
use Rattle.ecma_tree.specs.declared.node.Node.{Node, Node-F, out-Node, roll-Node}
use Rattle.ecma_tree.specs.Nodes.{node_of}
use Rattle.ecma_tree.specs.Rewritten.{rewritten}
use Rattle.ecma_hygiene.specs.Renamed.{kind_is_absent, proto, proto_in_brackets, with_default}

-- a text as a key, and as a name for others
abbrev pub key_node : Span → List ℕ → Node
key_node span text = node_of span (kind.IdentName text) []

abbrev pub name_node : Span → List ℕ → Node
name_node span text = node_of span (kind.Ident text 0 false) []

-- the properties of an object literal (ECMAScript, 13.2.5)

-- a text as the key of a property with a value; `__proto__` in no brackets would set the prototype (ECMAScript, B.3.1)
abbrev pub property_key_node : Span → List ℕ → Node
property_key_node span text = cond (bytes_eq text proto) (proto_in_brackets span) (key_node span text)

abbrev pub property_by : Kind → Span → Node → Node
property_by (kind.Ident sym ctxt optional) span n = node_of span kind.KeyValueProp (property_key_node span sym ∷ n ∷ [])
property_by _ span n = n

-- an identifier as a property becomes a key with its value
abbrev pub property_out : Node → Node
property_out n = property_by (out-Node n).kind (out-Node n).span n

abbrev pub properties_by : Node-F Node → Kind → Node → Node
properties_by parts kind.List n = node_of parts.span kind.List (map property_out parts.children)
properties_by parts _ n = n

abbrev pub properties_out : Node → Node
properties_out n = properties_by (out-Node n) (out-Node n).kind n

-- specifiers (ECMAScript, 16.2.2, 16.2.3)

abbrev pub other_by : Kind → Span → Node → Node
other_by (kind.Ident sym ctxt optional) span other = name_node span sym
other_by _ span other = other

-- the other name of a specifier, which has the text of the first where it is missing
abbrev pub other_out : Node → Node → Node
other_out name other = cond (kind_is_absent other) (other_by (out-Node name).kind (out-Node name).span other) other

-- the properties of a pattern (ECMAScript, 13.15.5, 14.3.3)

abbrev pub leaf_text : Kind → List Node → Option (List ℕ)
leaf_text (kind.Ident sym ctxt optional) [] = Some sym
leaf_text _ children = None

-- the identifier of a name in a pattern
abbrev pub identifier_by : Kind → List Node → Option Node
identifier_by kind.BindingIdent (id ∷ annotation ∷ []) = Some id
identifier_by _ children = None

abbrev pub pattern_with : Option (List ℕ) → Span → Span → Node → Node → Node-F Node → Node
pattern_with (Some text) place span name default parts = node_of span kind.KeyValuePatProp (key_node place text ∷ with_default span name default ∷ [])
pattern_with None place span name default parts = roll-Node parts

abbrev pub pattern_by : Option Node → Span → Node → Node → Node-F Node → Node
pattern_by (Some id) span name default parts = pattern_with (leaf_text (out-Node id).kind (out-Node id).children) (out-Node id).span span name default parts
pattern_by None span name default parts = roll-Node parts

-- a node whose children are written out
abbrev pub out_by : Kind → List Node → Node-F Node → Node
out_by kind.ObjectLit (properties ∷ others) parts = node_of parts.span kind.ObjectLit (properties_out properties ∷ others)
out_by (kind.ImportNamedSpecifier is_type_only) (name ∷ other ∷ []) parts = node_of parts.span (kind.ImportNamedSpecifier is_type_only) (name ∷ other_out name other ∷ [])
out_by (kind.ExportNamedSpecifier is_type_only) (name ∷ other ∷ []) parts = node_of parts.span (kind.ExportNamedSpecifier is_type_only) (name ∷ other_out name other ∷ [])
out_by kind.AssignPatProp (name ∷ default ∷ []) parts = pattern_by (identifier_by (out-Node name).kind (out-Node name).children) parts.span name default parts
out_by k children parts = roll-Node parts

abbrev pub out_here : Node-F Node → Node
out_here parts = out_by parts.kind parts.children parts

-- the tree with its shorthands written out
abbrev pub written_out : Node → Node
written_out = rewritten out_here
