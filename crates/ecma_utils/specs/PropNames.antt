-- Names of properties, and what is written of them.
use Rattle.std.specs.Prelude.{ℕ, Bool, false, List, [], ◌∷◌, Option, Some, None, bytes_eq}
use Rattle.ecma_number.specs.declared.js_number.JsNumber.{JsNumber}
use Rattle.ecma_number.specs.Text.{text_of}
use Rattle.ecma_kind.specs.declared.kind.Kind.{Kind}
use Rattle.ecma_kind.specs.declared.kind.Kind.TheVariants as kind
use Rattle.ecma_tree.specs.declared.node.Node.{Node, out-Node}
use Rattle.ecma_tree.specs.Nodes.{dummy_span, node_of}
use Rattle.ecma_utils.specs.Expressions.{with_kind}

abbrev pub only_or : Node → List Node → Node
only_or node (item ∷ []) = item
only_or node _ = node

abbrev pub key_expr_by : Kind → Node → Node
key_expr_by (kind.IdentName text) key = with_kind (kind.Ident text 0 false) key
key_expr_by kind.ComputedPropName key = only_or key (out-Node key).children
key_expr_by _ key = key

-- the expression of a key: a name as an identifier in the empty context, what stands in brackets, and a literal itself
--   { a: 1, "b": 2, [c]: 3 }   // a, "b", c
abbrev pub key_expr : Node → Node
key_expr key = key_expr_by (out-Node key).kind key

abbrev pub key_value_by : Kind → Node → Node
key_value_by (kind.IdentName text) key = with_kind (kind.Str text None) key
key_value_by _ key = key_expr key

-- the same as a value: a name as a text
--   { a: 1, "b": 2, [c]: 3 }   // "a", "b", c
abbrev pub key_value : Node → Node
key_value key = key_value_by (out-Node key).kind key

abbrev pub member_key_by : Kind → Node → Node
member_key_by (kind.IdentName text) key = key
member_key_by kind.ComputedPropName key = key
member_key_by _ key = node_of dummy_span kind.ComputedPropName (key ∷ [])

-- the same behind an object: a literal in brackets
--   { a: 1, "b": 2, [c]: 3 }   // o.a, o["b"], o[c]
abbrev pub member_key : Node → Node
member_key key = member_key_by (out-Node key).kind key

abbrev pub is_text_of : List ℕ → Option JsNumber → Bool
is_text_of text (Some value) = bytes_eq (text_of value) text
is_text_of text None = false

abbrev pub literal_is_by : List ℕ → Kind → Bool
literal_is_by text (kind.Str value raw) = bytes_eq value text
literal_is_by text _ = false

abbrev pub only_literal_is : List ℕ → List Node → Bool
only_literal_is text (item ∷ []) = literal_is_by text (out-Node item).kind
only_literal_is text _ = false

abbrev pub key_is_by : List ℕ → Kind → List Node → Bool
key_is_by text (kind.IdentName name) children = bytes_eq name text
key_is_by text (kind.Str value raw) children = bytes_eq value text
key_is_by text (kind.Number value raw) children = is_text_of text value
key_is_by text kind.ComputedPropName children = only_literal_is text children
key_is_by text _ children = false

-- whether this is the text of a key that is written out: of a number the text of its value, in brackets that of a text
--   { a: 1, "a": 2, ["a"]: 3 }   // each has the text `a`
--   { 0x10: 1 }   // the text `16`
abbrev pub key_is : List ℕ → Node → Bool
key_is text key = key_is_by text (out-Node key).kind (out-Node key).children
