-- The value of an expression as a text (ECMAScript, 7.1.17 ToString), where nothing has to be done to know it.
use Rattle.std.specs.Prelude.{ℕ, Bool, true, false, ◌&&◌, ◌||◌, ◌==◌, List, [], ◌∷◌, ◌++◌, Option, Some, None, bytes_eq, codes, if◌then◌else◌}
use Rattle.ecma_kind.specs.declared.kind.Kind.{Kind}
use Rattle.ecma_kind.specs.declared.kind.Kind.TheVariants as kind
use Rattle.ecma_kind.specs.declared.operators.UnaryOp.{UnaryOp}
use Rattle.ecma_kind.specs.declared.operators.UnaryOp.TheVariants as unary
use Rattle.ecma_number.specs.Text.{text_of}
use Rattle.ecma_number.specs.Types.{is_pure}
use Rattle.ecma_number.specs.Value.{logical_not}
use Rattle.ecma_number.specs.declared.js_number.JsNumber.{JsNumber}
use Rattle.ecma_number.specs.declared.types.Purity.{Purity}
use Rattle.ecma_number.specs.declared.value.Value.{Value}
use Rattle.ecma_number.specs.declared.value.Value.TheVariants.{Known, Unknown}
use Rattle.ecma_judge.specs.declared.ctx.ExprCtx.{ExprCtx}
use Rattle.ecma_judge.specs.Judgement.{Judged, kid}
use Rattle.ecma_judge.specs.Truths.{if_pure}

abbrev pub Text : Type 0
Text = Value (List ℕ)

abbrev pub bool_text : Bool → List ℕ
bool_text true = codes "true"
bool_text false = codes "false"

abbrev pub known_bool_text : Value Bool → Text
known_bool_text (Known value) = Known (bool_text value)
known_bool_text Unknown = Unknown

abbrev pub known_number_text : Option JsNumber → Text
known_number_text (Some number) = Known (text_of number)
known_number_text None = Unknown

abbrev pub is_text_name : List ℕ → Bool
is_text_name sym = bytes_eq sym (codes "undefined") || bytes_eq sym (codes "Infinity") || bytes_eq sym (codes "NaN")

-- these names are their own texts
abbrev pub name_text : ExprCtx → List ℕ → ℕ → Text
name_text ctx sym ctxt = if ctxt == ctx.unresolved_ctxt && is_text_name sym then Known sym else Unknown

-- ---- arrays

abbrev pub followed_by : Text → Text → Text
followed_by (Known text) (Known others) = Known (text ++ others)
followed_by text others = Unknown

-- texts, the first behind `front` and each other behind a comma (44); unknown where one is
abbrev pub joined_behind : List ℕ → List Judged → Text
joined_behind front [] = Known []
joined_behind front (k ∷ ks) = followed_by (followed_by (Known front) k.element) (joined_behind (44 ∷ []) ks)

-- texts with commas between them
abbrev pub joined : List Judged → Text
joined kids = joined_behind [] kids

-- ---- the table; `own` is the purity of the node by its effects

abbrev pub void_text : Purity → Text
void_text own = if is_pure own then Known (codes "undefined") else Unknown

abbrev pub unary_text : Purity → UnaryOp → Judged → Text
unary_text own unary.Void arg = void_text own
unary_text own unary.Bang arg = known_bool_text (logical_not (if_pure arg.truth))
unary_text own _ arg = Unknown

unfoldable pub text_by : ExprCtx → Purity → Kind → List Judged → Text
text_by ctx own (kind.Str value raw) kids = Known value
text_by ctx own (kind.Number value raw) kids = known_number_text value
text_by ctx own (kind.Bool value) kids = Known (bool_text value)
text_by ctx own kind.Null kids = Known (codes "null")
text_by ctx own (kind.Ident sym ctxt optional) kids = name_text ctx sym ctxt
text_by ctx own (kind.UnaryExpr op) kids = unary_text own op (kid kids 0)
text_by ctx own kind.ArrayLit kids = (kid kids 0).text
text_by ctx own kind.List kids = joined kids
text_by ctx own _ kids = Unknown

-- `void e`, where it has no effects
abbrev pub is_idle_void : Purity → UnaryOp → Bool
is_idle_void own unary.Void = is_pure own
is_idle_void own _ = false

abbrev pub is_undefined_name : ExprCtx → List ℕ → ℕ → Bool
is_undefined_name ctx sym ctxt = ctxt == ctx.unresolved_ctxt && bytes_eq sym (codes "undefined")

-- holes, `null`, `undefined` and `void` without effects
unfoldable pub is_nothing_by : ExprCtx → Purity → Kind → Bool
is_nothing_by ctx own kind.Absent = true
is_nothing_by ctx own kind.Null = true
is_nothing_by ctx own (kind.Ident sym ctxt optional) = is_undefined_name ctx sym ctxt
is_nothing_by ctx own (kind.UnaryExpr op) = is_idle_void own op
is_nothing_by ctx own _ = false

-- as an element of an array these are nothing
abbrev pub element_by : ExprCtx → Purity → Kind → Text → Text
element_by ctx own k text = if is_nothing_by ctx own k then Known [] else text
