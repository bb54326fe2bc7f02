-- What is known of the value of an enum's member, and how it is written.
use Rattle.std.specs.Prelude.{ℕ, ℤ, pos, int_lt, Bool, true, false, List, [], ◌∷◌, Option, Some, None, if◌then◌else◌}
use Rattle.std.specs.Option.{option_map}
use Rattle.ecma_kind.specs.declared.kind.Kind.TheVariants as kind
use Rattle.ecma_kind.specs.declared.operators.BinaryOp.TheVariants as binary
use Rattle.ecma_kind.specs.declared.operators.UnaryOp.TheVariants as unary
use Rattle.ecma_number.specs.Arithmetic.{sum_of, unary_minus_of}
use Rattle.ecma_number.specs.declared.js_number.JsNumber.{JsNumber}
use Rattle.ecma_number.specs.declared.js_number.JsNumber.TheVariants as number
use Rattle.ecma_tree.specs.Nodes.{dummy_span, node_of}
use Rattle.ecma_tree.specs.declared.node.Node.{Node}
use Rattle.ecma_enums.specs.declared.value.TsEnumRecordValue.{TsEnumRecordValue}
use Rattle.ecma_enums.specs.declared.value.TsEnumRecordValue.TheVariants as value

-- it is known
abbrev pub is_constant : TsEnumRecordValue → Bool
is_constant (value.String text) = true
is_constant (value.Number n) = true
is_constant _ = false

abbrev pub is_text : TsEnumRecordValue → Bool
is_text (value.String text) = true
is_text _ = false

abbrev pub has_value : TsEnumRecordValue → Bool
has_value value.Void = false
has_value _ = true

abbrev pub one : JsNumber
one = number.Whole (pos 1)

abbrev pub zero : JsNumber
zero = number.Whole (pos 0)

-- of a member without initialiser behind this one: the number plus one, and undefined behind what is no number
--   enum E { A = 4, B, C = "t", D }   // B is 5, D is undefined
abbrev pub increased : TsEnumRecordValue → Option TsEnumRecordValue
increased (value.Number n) = option_map value.Number (sum_of n one)
increased _ = Some value.Void

-- ---- how it is written

abbrev pub numeral : Option JsNumber → Node
numeral n = node_of dummy_span (kind.Number n None) []

--   -e
abbrev pub minus : Node → Node
minus e = node_of dummy_span (kind.UnaryExpr unary.Minus) (e ∷ [])

--   e / 0
abbrev pub divided_by_zero : Node → Node
divided_by_zero e = node_of dummy_span (kind.BinExpr binary.Div) (e ∷ numeral (Some zero) ∷ [])

--   void 0
abbrev pub undefined : Node
undefined = node_of dummy_span (kind.UnaryExpr unary.Void) (numeral (Some zero) ∷ [])

--   "t"
abbrev pub text_literal : List ℕ → Node
text_literal text = node_of dummy_span (kind.Str text None) []

abbrev pub whole_expression : ℤ → Node
whole_expression n = if int_lt n (pos 0) then minus (numeral (Some (unary_minus_of (number.Whole n)))) else numeral (Some (number.Whole n))

--   7   -7   -0   0 / 0   1 / 0   -1 / 0
abbrev pub number_expression : JsNumber → Node
number_expression (number.Whole n) = whole_expression n
number_expression number.NegZero = minus (numeral (Some zero))
number_expression number.NaN = divided_by_zero (numeral (Some zero))
number_expression number.Infinity = divided_by_zero (numeral (Some one))
number_expression number.NegInfinity = divided_by_zero (minus (numeral (Some one)))

-- nothing is written of what is not known
abbrev pub expression : TsEnumRecordValue → Option Node
expression (value.String text) = Some (text_literal text)
expression (value.Number n) = Some (number_expression n)
expression value.Opaque = None
expression value.Void = Some undefined
