-- Whether the value of an expression counts as true (ECMAScript, 7.1.2 ToBoolean), and the purity of what tells it.
use Rattle.std.specs.Prelude.{ℕ, Bool, true, false, ◌&&◌, ◌||◌, ◌==◌, not, List, [], ◌∷◌, Option, Some, None, bytes_eq, codes, drop, length, if◌then◌else◌, nat_le, slice_get}
use Rattle.std.specs.List.{list_any}
use Rattle.std.specs.Option.{option_map_or}
use Rattle.ecma_kind.specs.declared.kind.Kind.{Kind}
use Rattle.ecma_kind.specs.declared.kind.Kind.TheVariants as kind
use Rattle.ecma_kind.specs.declared.operators.AssignOp.{AssignOp}
use Rattle.ecma_kind.specs.declared.operators.AssignOp.TheVariants.{Assign}
use Rattle.ecma_kind.specs.declared.operators.BinaryOp.{BinaryOp}
use Rattle.ecma_kind.specs.declared.operators.BinaryOp.TheVariants as binary
use Rattle.ecma_kind.specs.declared.operators.UnaryOp.{UnaryOp}
use Rattle.ecma_kind.specs.declared.operators.UnaryOp.TheVariants as unary
use Rattle.ecma_number.specs.Equality.{are_equal}
use Rattle.ecma_number.specs.JsNumber.{is_infinite, is_nan, is_zero}
use Rattle.ecma_number.specs.Types.{is_pure, purity_of_both}
use Rattle.ecma_number.specs.Value.{conjunction_of, disjunction_of, logical_not}
use Rattle.ecma_number.specs.declared.js_number.JsNumber.{JsNumber}
use Rattle.ecma_number.specs.declared.types.JsType.{JsType}
use Rattle.ecma_number.specs.declared.types.JsType.TheVariants as js_type
use Rattle.ecma_number.specs.declared.types.Purity.{Purity}
use Rattle.ecma_number.specs.declared.types.Purity.TheVariants.{MayBeImpure, Pure}
use Rattle.ecma_number.specs.declared.value.Value.{Value}
use Rattle.ecma_number.specs.declared.value.Value.TheVariants.{Known, Unknown}
use Rattle.ecma_tree.specs.declared.node.Node.{Node, out-Node}
use Rattle.ecma_judge.specs.declared.ctx.ExprCtx.{ExprCtx}
use Rattle.ecma_judge.specs.Judgement.{Judged, kid}
use Rattle.ecma_judge.specs.Parts.{passes_at}
use Rattle.ecma_judge.specs.Values.{last_index}

abbrev pub Truth : Type 0
Truth = Purity × Value Bool

-- what is known of it, if nothing is done to know it
abbrev pub if_pure : {T : Type 0} → Purity × Value T → Value T
if_pure known = if is_pure known.0 then known.1 else Unknown

-- ---- literals

-- a Number counts as true unless it is NaN or a zero
abbrev pub number_truth : JsNumber → Bool
number_truth number = not (is_nan number || is_zero number)

abbrev pub known_number_truth : Option JsNumber → Value Bool
known_number_truth (Some number) = Known (number_truth number)
known_number_truth None = Unknown

-- `x`, `o` and `b`, in either case
abbrev pub is_prefix_letter : ℕ → Bool
is_prefix_letter c = c == 120 || c == 88 || c == 111 || c == 79 || c == 98 || c == 66

-- a prefix stands behind its 0 (48)
abbrev pub has_prefix : List ℕ → Bool
has_prefix digits = option_map_or (λ c. c == 48) (slice_get digits 0) false && option_map_or is_prefix_letter (slice_get digits 1) false

abbrev pub behind_prefix : List ℕ → List ℕ
behind_prefix digits = if has_prefix digits then drop 2 digits else digits

-- `1` to `9`, `a` to `f` and `A` to `F`
abbrev pub is_digit_above_0 : ℕ → Bool
is_digit_above_0 c = (nat_le 49 c && nat_le c 57) || (nat_le 97 c && nat_le c 102) || (nat_le 65 c && nat_le c 70)

-- a BigInt counts as true where one of its digits is not 0
abbrev pub any_digit_above_0 : List ℕ → Bool
any_digit_above_0 digits = list_any is_digit_above_0 digits

abbrev pub big_int_truth : List ℕ → Bool
big_int_truth digits = any_digit_above_0 (behind_prefix digits)

-- ---- names

abbrev pub is_false_name : List ℕ → Bool
is_false_name sym = bytes_eq sym (codes "undefined") || bytes_eq sym (codes "NaN")

-- `undefined` and `NaN` are false
abbrev pub name_truth : ExprCtx → Purity → List ℕ → ℕ → Truth
name_truth ctx own sym ctxt =
    if ctxt == ctx.unresolved_ctxt && is_false_name sym then (Pure, Known false) else (own, Unknown)

-- ---- operators

abbrev pub negated_truth : Value JsNumber → Value Bool
negated_truth (Known number) = Known (number_truth number)
negated_truth Unknown = Unknown

-- a difference is 0 where the two are equal, and NaN where one is NaN
abbrev pub difference_truth : Value JsNumber → Value JsNumber → Value Bool
difference_truth (Known left) (Known right) = Known (not (are_equal left right || is_nan left || is_nan right))
difference_truth left right = Unknown

-- a quotient is NaN or 0 where a side is NaN, for 0 by anything, and for anything by an infinity
abbrev pub quotient_truth : Value JsNumber → Value JsNumber → Value Bool
quotient_truth (Known left) (Known right) = Known (not (is_nan left || is_nan right || is_zero left || is_infinite right))
quotient_truth left right = Unknown

abbrev pub is_bool : Value JsType → Bool
is_bool (Known js_type.Bool) = true
is_bool _ = false

abbrev pub are_bools : Judged → Judged → Bool
are_bools left right = is_bool left.type && is_bool right.type

-- left || right: true where the left is, and else where the right is
abbrev or_truth_by : Purity → Value Bool → Purity → Value Bool → Truth
or_truth_by own (Known true) other right = (own, Known true)
or_truth_by own left other (Known true) = (purity_of_both own other, Known true)
or_truth_by own left other right = (purity_of_both own other, Unknown)

abbrev pub or_truth : Truth → Truth → Truth
or_truth left right = or_truth_by left.0 left.1 right.0 right.1

-- left && right: false where the left is, and else where the right is
abbrev and_truth_by : Purity → Value Bool → Purity → Value Bool → Truth
and_truth_by own (Known false) other right = (own, Known false)
and_truth_by own left other (Known false) = (purity_of_both own other, Known false)
and_truth_by own left other right = (purity_of_both own other, Unknown)

abbrev pub and_truth : Truth → Truth → Truth
and_truth left right = and_truth_by left.0 left.1 right.0 right.1

abbrev is_empty : List ℕ → Bool
is_empty [] = true
is_empty (c ∷ cs) = false

-- a text literal with something in it
abbrev pub is_filled_by : Kind → Bool
is_filled_by (kind.Str value raw) = not (is_empty value)
is_filled_by _ = false

abbrev pub is_filled : Node → Bool
is_filled n = is_filled_by (out-Node n).kind

abbrev pub sum_truth : Node → Value Bool
sum_truth n = if passes_at is_filled 0 n || passes_at is_filled 1 n then Known true else Unknown

-- `!` keeps the purity
abbrev pub negation : Truth → Truth
negation truth = (truth.0, logical_not truth.1)

abbrev pub with_purity : {T : Type 0} → Purity → Purity × Value T → Purity × Value T
with_purity own known = (own, known.1)

abbrev pub unary_truth : Purity → UnaryOp → Judged → Truth
unary_truth own unary.Minus arg = (own, negated_truth (if_pure arg.number))
unary_truth own unary.Bang arg = negation arg.truth
unary_truth own unary.Void arg = (own, Known false)
unary_truth own _ arg = (own, Unknown)

abbrev pub difference : Purity × Value JsNumber → Purity × Value JsNumber → Truth
difference left right = (purity_of_both left.0 right.0, difference_truth left.1 right.1)

abbrev pub quotient : Purity × Value JsNumber → Purity × Value JsNumber → Truth
quotient left right = (purity_of_both left.0 right.0, quotient_truth (if_pure left) (if_pure right))

abbrev pub if_bools : Bool → Value Bool → Value Bool
if_bools bools known = if bools then known else Unknown

-- `&` and `|` of truth values
abbrev pub bit_and : Bool → Truth → Truth → Truth
bit_and bools left right = (purity_of_both left.0 right.0, if_bools bools (conjunction_of left.1 right.1))

abbrev pub bit_or : Bool → Truth → Truth → Truth
bit_or bools left right = (purity_of_both left.0 right.0, if_bools bools (disjunction_of left.1 right.1))

abbrev pub binary_truth : Purity → BinaryOp → Node → Judged → Judged → Truth
binary_truth own binary.Sub n left right = difference left.number right.number
binary_truth own binary.Div n left right = quotient left.number right.number
binary_truth own binary.BitAnd n left right = bit_and (are_bools left right) left.truth right.truth
binary_truth own binary.BitOr n left right = bit_or (are_bools left right) left.truth right.truth
binary_truth own binary.LogicalOr n left right = or_truth left.truth right.truth
binary_truth own binary.LogicalAnd n left right = and_truth left.truth right.truth
binary_truth own binary.Add n left right = (own, sum_truth n)
binary_truth own _ n left right = (own, Unknown)

abbrev pub assigned_truth : Purity → AssignOp → Judged → Truth
assigned_truth own Assign right = with_purity MayBeImpure right.truth
assigned_truth own _ right = (own, Unknown)

-- ---- the table; `own` is the purity of the node by its effects

unfoldable pub truth_by : ExprCtx → Purity → Kind → Node → List Judged → Truth
truth_by ctx own (kind.Ident sym ctxt optional) n kids = name_truth ctx own sym ctxt
truth_by ctx own kind.ParenExpr n kids = (kid kids 0).truth
truth_by ctx own (kind.AssignExpr op) n kids = assigned_truth own op (kid kids 1)
truth_by ctx own (kind.UnaryExpr op) n kids = unary_truth own op (kid kids 0)
truth_by ctx own (kind.BinExpr op) n kids = binary_truth own op n (kid kids 0) (kid kids 1)
truth_by ctx own kind.SeqExpr n kids = with_purity own (kid kids (last_index (length (out-Node n).children))).truth
truth_by ctx own kind.FnExpr n kids = (own, Known true)
truth_by ctx own kind.ClassExpr n kids = (own, Known true)
truth_by ctx own kind.NewExpr n kids = (own, Known true)
truth_by ctx own kind.ArrayLit n kids = (own, Known true)
truth_by ctx own kind.ObjectLit n kids = (own, Known true)
truth_by ctx own (kind.Regex exp flags) n kids = (Pure, Known true)
truth_by ctx own (kind.Str value raw) n kids = (Pure, Known (not (is_empty value)))
truth_by ctx own (kind.Number value raw) n kids = (Pure, known_number_truth value)
truth_by ctx own (kind.BigInt value raw) n kids = (Pure, Known (big_int_truth value))
truth_by ctx own (kind.Bool value) n kids = (Pure, Known value)
truth_by ctx own kind.Null n kids = (Pure, Known false)
truth_by ctx own _ n kids = (own, Unknown)
