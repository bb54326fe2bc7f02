-- The value of an expression as a Number (ECMAScript, 7.1.4 ToNumber), and the purity of what tells it.
use Rattle.std.specs.Prelude.{ℕ, pos, Bool, true, false, ◌&&◌, ◌||◌, ◌==◌, List, bytes_eq, codes, length, not, if◌then◌else◌}
use Rattle.ecma_kind.specs.declared.kind.Kind.{Kind}
use Rattle.ecma_kind.specs.declared.kind.Kind.TheVariants as kind
use Rattle.ecma_kind.specs.declared.operators.UnaryOp.{UnaryOp}
use Rattle.ecma_kind.specs.declared.operators.UnaryOp.TheVariants as unary
use Rattle.ecma_number.specs.StringToNumber.{known_of, text_number_of}
use Rattle.ecma_number.specs.declared.js_number.JsNumber.{JsNumber}
use Rattle.ecma_number.specs.declared.js_number.JsNumber.TheVariants as number
use Rattle.ecma_number.specs.declared.types.Purity.{Purity}
use Rattle.ecma_number.specs.declared.types.Purity.TheVariants.{MayBeImpure, Pure}
use Rattle.ecma_number.specs.declared.value.Value.{Value}
use Rattle.ecma_number.specs.declared.value.Value.TheVariants.{Known, Unknown}
use Rattle.ecma_tree.specs.declared.node.Node.{Node, out-Node}
use Rattle.ecma_judge.specs.declared.ctx.ExprCtx.{ExprCtx}
use Rattle.ecma_judge.specs.Contexts.{is_global}
use Rattle.ecma_judge.specs.Judgement.{Judged, kid}
use Rattle.ecma_judge.specs.Parts.{passes_at}
use Rattle.ecma_judge.specs.Truths.{if_pure, with_purity}
use Rattle.ecma_judge.specs.Values.{last_index}

abbrev pub Numbered : Type 0
Numbered = Purity × Value JsNumber

abbrev pub bool_number : Bool → JsNumber
bool_number true = number.Whole (pos 1)
bool_number false = number.Whole (pos 0)

abbrev pub is_nan_name : List ℕ → Bool
is_nan_name sym = bytes_eq sym (codes "undefined") || bytes_eq sym (codes "NaN")

abbrev pub name_number : ExprCtx → Purity → List ℕ → ℕ → Numbered
name_number ctx own sym ctxt =
    if ctxt == ctx.unresolved_ctxt && is_nan_name sym then (Pure, Known number.NaN)
    else if ctxt == ctx.unresolved_ctxt && bytes_eq sym (codes "Infinity") then (Pure, Known number.Infinity)
    else (own, Unknown)

-- an array is the Number that its text is
abbrev pub array_number : Purity → Value (List ℕ) → Numbered
array_number own (Known text) = (Pure, text_number_of text)
array_number own Unknown = (own, Unknown)

abbrev pub not_number_by : Value Bool → Numbered
not_number_by (Known value) = (Pure, Known (bool_number (not value)))
not_number_by Unknown = (MayBeImpure, Unknown)

abbrev pub is_infinity : ExprCtx → Node → Bool
is_infinity ctx n = is_global ctx (codes "Infinity") (out-Node n).kind

--   -Infinity
abbrev pub minus_number : Bool → Numbered
minus_number true = (Pure, Known number.NegInfinity)
minus_number false = (MayBeImpure, Unknown)

abbrev pub unary_number : ExprCtx → Purity → UnaryOp → Node → Judged → Numbered
unary_number ctx own unary.Minus n arg = minus_number (passes_at (is_infinity ctx) 0 n)
unary_number ctx own unary.Bang n arg = not_number_by (if_pure arg.truth)
unary_number ctx own unary.Void n arg = (own, Known number.NaN)
unary_number ctx own _ n arg = (MayBeImpure, Unknown)

-- `own` is the purity of the node by its effects
unfoldable pub number_by : ExprCtx → Purity → Kind → Node → List Judged → Numbered
number_by ctx own (kind.Ident sym ctxt optional) n kids = name_number ctx own sym ctxt
number_by ctx own (kind.Bool value) n kids = (Pure, Known (bool_number value))
number_by ctx own kind.Null n kids = (Pure, Known (bool_number false))
number_by ctx own (kind.Number value raw) n kids = (Pure, known_of value)
number_by ctx own (kind.Str value raw) n kids = (Pure, text_number_of value)
number_by ctx own (kind.BigInt value raw) n kids = (Pure, Unknown)
number_by ctx own (kind.Regex exp flags) n kids = (Pure, Unknown)
number_by ctx own kind.ArrayLit n kids = array_number own (kid kids 0).text
number_by ctx own (kind.UnaryExpr op) n kids = unary_number ctx own op n (kid kids 0)
number_by ctx own kind.SeqExpr n kids = with_purity MayBeImpure (kid kids (last_index (length (out-Node n).children))).number
number_by ctx own _ n kids = (MayBeImpure, Unknown)
