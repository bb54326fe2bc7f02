-- Which expressions are texts, and which have the same value wherever they are evaluated: by their form alone.
use Rattle.std.specs.Prelude.{ℕ, Bool, true, false, ◌&&◌, ◌||◌, ◌-◌, List, bytes_eq, codes, get_or, length}
use Rattle.std.specs.List.{list_all}
use Rattle.ecma_kind.specs.declared.kind.Kind.{Kind}
use Rattle.ecma_kind.specs.declared.kind.Kind.TheVariants as kind
use Rattle.ecma_kind.specs.declared.operators.AssignOp.{AssignOp}
use Rattle.ecma_kind.specs.declared.operators.AssignOp.TheVariants.{Assign, AddAssign}
use Rattle.ecma_kind.specs.declared.operators.BinaryOp.{BinaryOp}
use Rattle.ecma_kind.specs.declared.operators.BinaryOp.TheVariants.{Add}
use Rattle.ecma_kind.specs.declared.operators.UnaryOp.{UnaryOp}
use Rattle.ecma_kind.specs.declared.operators.UnaryOp.TheVariants.{Bang, Tilde, TypeOf, Void}
use Rattle.ecma_tree.specs.declared.node.Node.{Node, Node-F, fold-Node}

abbrev pub is_typeof : UnaryOp → Bool
is_typeof TypeOf = true
is_typeof _ = false

abbrev pub is_void : UnaryOp → Bool
is_void Void = true
is_void _ = false

abbrev pub is_void_expr : Kind → Bool
is_void_expr (kind.UnaryExpr op) = is_void op
is_void_expr _ = false

abbrev pub is_add : BinaryOp → Bool
is_add Add = true
is_add _ = false

-- `=` and `+=`
abbrev pub assigns_or_adds : AssignOp → Bool
assigns_or_adds Assign = true
assigns_or_adds AddAssign = true
assigns_or_adds _ = false

-- the index of the last of so many
abbrev pub last_index : ℕ → ℕ
last_index count = count - 1

--   "a"
--   typeof a
--   a + "b"
--   c = "d"
unfoldable pub is_text_by : Kind → List Bool → Bool
is_text_by (kind.Str value raw) kids = true
is_text_by kind.Tpl kids = true
is_text_by (kind.UnaryExpr op) kids = is_typeof op
is_text_by (kind.BinExpr op) kids = is_add op && (get_or kids 0 false || get_or kids 1 false)
is_text_by (kind.AssignExpr op) kids = assigns_or_adds op && get_or kids 1 false
is_text_by kind.SeqExpr kids = get_or kids (last_index (length kids)) false
is_text_by kind.CondExpr kids = get_or kids 1 false && get_or kids 2 false
is_text_by _ kids = false

abbrev pub is_text_step : Node-F Bool → Bool
is_text_step parts = is_text_by parts.kind parts.children

-- its value is a text
abbrev pub is_text : Node → Bool
is_text = fold-Node Bool is_text_step

-- `!`, `~` and `void`
abbrev pub keeps_immutable : UnaryOp → Bool
keeps_immutable Bang = true
keeps_immutable Tilde = true
keeps_immutable Void = true
keeps_immutable _ = false

abbrev pub is_constant_name : List ℕ → Bool
is_constant_name sym = bytes_eq sym (codes "undefined") || bytes_eq sym (codes "Infinity") || bytes_eq sym (codes "NaN")

--   void 0
--   `a${1}`
unfoldable pub is_immutable_by : Kind → List Bool → Bool
is_immutable_by (kind.Str value raw) kids = true
is_immutable_by (kind.Number value raw) kids = true
is_immutable_by (kind.Bool value) kids = true
is_immutable_by kind.Null kids = true
is_immutable_by (kind.UnaryExpr op) kids = keeps_immutable op && get_or kids 0 false
is_immutable_by (kind.Ident sym ctxt optional) kids = is_constant_name sym
is_immutable_by kind.Tpl kids = get_or kids 0 false
is_immutable_by kind.List kids = list_all (λ b. b) kids
is_immutable_by _ kids = false

abbrev pub is_immutable_step : Node-F Bool → Bool
is_immutable_step parts = is_immutable_by parts.kind parts.children

-- its value is the same wherever it is evaluated
abbrev pub is_immutable : Node → Bool
is_immutable = fold-Node Bool is_immutable_step
