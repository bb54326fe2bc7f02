-- Casts of values and operators on them (ECMAScript, 7.1 Type Conversion, 7.2 Testing and Comparison Operations, 13.5 to 13.12).
-- None is what is open: casts of own objects, host values and errors, and results outside the number domain.
use Rattle.std.specs.Prelude.{ℕ, pos, ◌+◌, ◌-◌, ◌/◌, ◌%◌, Bool, true, false, not, ◌||◌, List, [], ◌∷◌, ◌++◌, Option, Some, None, bytes_eq, nat_eq, nat_lt, chars, codes, int_lt, if◌then◌else◌, bit_and, bit_or, bit_xor}
use Rattle.std.specs.Bool.{beq}
use Rattle.std.specs.Option.{option_map}
use Rattle.ecma_number.specs.declared.js_number.JsNumber.{JsNumber}
use Rattle.ecma_number.specs.declared.js_number.JsNumber.TheVariants.{Whole, NaN, Infinity, NegInfinity}
use Rattle.ecma_number.specs.declared.value.Value.{Value as KnownOr}
use Rattle.ecma_number.specs.declared.value.Value.TheVariants.{Known, Unknown}
use Rattle.ecma_number.specs.JsNumber.{value_of}
use Rattle.ecma_number.specs.Arithmetic.{unary_minus_of, sum_of, difference_of, product_of, quotient_of, remainder_of, power_of}
use Rattle.ecma_number.specs.Bits.{complement_of, left_shift_of, right_shift_of, unsigned_right_shift_of, bitwise}
use Rattle.ecma_number.specs.Equality.{are_equal}
use Rattle.ecma_number.specs.StringToNumber.{text_number_of}
use Rattle.ecma_number.specs.Text.{text_of}
use Rattle.ecma_kind.specs.declared.operators.AssignOp.{AssignOp}
use Rattle.ecma_kind.specs.declared.operators.AssignOp.TheVariants as assign
use Rattle.ecma_kind.specs.declared.operators.BinaryOp.{BinaryOp}
use Rattle.ecma_kind.specs.declared.operators.BinaryOp.TheVariants as binary
use Rattle.ecma_kind.specs.declared.operators.UnaryOp.{UnaryOp}
use Rattle.ecma_kind.specs.declared.operators.UnaryOp.TheVariants as unary
use Rattle.ecma_kind.specs.declared.operators.UpdateOp.{UpdateOp}
use Rattle.ecma_kind.specs.declared.operators.UpdateOp.TheVariants as update
use Rattle.ecma_runs.specs.Values.{Value, Undefined, Null, Truth, Number, Text, Own, Host, Error, truth_of, is_nullish}

-- what two values give, where neither is open
abbrev pub both : {A B C : Type 0} → (A → B → Option C) → Option A → Option B → Option C
both f (Some a) (Some b) = f a b
both f a b = None

-- casts

-- 7.1.17 ToString
abbrev pub text_from : Value → Option (List ℕ)
text_from Undefined = Some (codes "undefined")
text_from Null = Some (codes "null")
text_from (Truth true) = Some (codes "true")
text_from (Truth false) = Some (codes "false")
text_from (Number number) = Some (text_of number)
text_from (Text text) = Some text
text_from v = None

abbrev pub if_known : KnownOr JsNumber → Option JsNumber
if_known (Known number) = Some number
if_known Unknown = None

-- 7.1.4 ToNumber
abbrev pub number_from : Value → Option JsNumber
number_from Undefined = Some NaN
number_from Null = Some (Whole (pos 0))
number_from (Truth true) = Some (Whole (pos 1))
number_from (Truth false) = Some (Whole (pos 0))
number_from (Number number) = Some number
number_from (Text text) = if_known (text_number_of text)
number_from v = None

-- 7.1.19 ToPropertyKey
abbrev pub key_from : Value → Option (List ℕ)
key_from = text_from

-- equality

-- 7.2.15 IsStrictlyEqual; of two errors it is open
abbrev pub strictly_equal : Value → Value → Option Bool
strictly_equal Undefined Undefined = Some true
strictly_equal Null Null = Some true
strictly_equal (Truth a) (Truth b) = Some (beq a b)
strictly_equal (Number a) (Number b) = Some (are_equal a b)
strictly_equal (Text a) (Text b) = Some (bytes_eq a b)
strictly_equal (Own a) (Own b) = Some (nat_eq a b)
strictly_equal (Host a) (Host b) = Some (nat_eq a b)
strictly_equal (Error a) (Error b) = None
strictly_equal v w = Some false

abbrev pub equal_as_numbers : Value → Value → Option Bool
equal_as_numbers v w = both (λ a b. Some (are_equal a b)) (number_from v) (number_from w)

abbrev pub is_primitive : Value → Bool
is_primitive (Own place) = false
is_primitive (Host number) = false
is_primitive (Error error_kind) = false
is_primitive v = true

-- 7.2.14 IsLooselyEqual, of values of which none is undefined or null: objects are equal as they are, texts too, and else numbers
abbrev pub equal_or_cast : Value → Value → Option Bool
equal_or_cast (Text a) (Text b) = Some (bytes_eq a b)
equal_or_cast v w = (if is_primitive v || is_primitive w then equal_as_numbers v w else strictly_equal v w)

-- 7.2.14 IsLooselyEqual
abbrev pub loosely_equal : Value → Value → Option Bool
loosely_equal Undefined w = Some (is_nullish w)
loosely_equal Null w = Some (is_nullish w)
loosely_equal v Undefined = Some (is_nullish v)
loosely_equal v Null = Some (is_nullish v)
loosely_equal v w = equal_or_cast v w

-- order

-- 6.1.6.1.12 Number::lessThan; none where a side is NaN
abbrev pub number_is_less : JsNumber → JsNumber → Option Bool
number_is_less NaN right = None
number_is_less left NaN = None
number_is_less left Infinity = Some (not (are_equal left Infinity))
number_is_less Infinity right = Some false
number_is_less left NegInfinity = Some false
number_is_less NegInfinity right = Some true
number_is_less left right = Some (int_lt (value_of left) (value_of right))

-- the UTF-16 code units of a character (11.1.1 UTF16EncodeCodePoint)
abbrev pub units_of : ℕ → List ℕ
units_of code = (if nat_lt code 0x10000 then code ∷ [] else (0xD800 + (code - 0x10000) / 0x400) ∷ (0xDC00 + (code - 0x10000) % 0x400) ∷ [])

abbrev pub all_units : List ℕ → List ℕ
all_units [] = []
all_units (code ∷ rest) = units_of code ++ all_units rest

-- the first two units that differ decide, else that the first text is the shorter one
abbrev pub units_are_less : List ℕ → List ℕ → Bool
units_are_less left [] = false
units_are_less [] (b ∷ right) = true
units_are_less (a ∷ left) (b ∷ right) = (if nat_eq a b then units_are_less left right else nat_lt a b)

-- what a comparison says of an order; where there is none, false
abbrev pub holds_of : (Bool → Bool) → Option Bool → Bool
holds_of says (Some b) = says b
holds_of says None = false

-- 7.2.13 IsLessThan: both texts, or else numbers
abbrev pub compared : (Bool → Bool) → Value → Value → Option Bool
compared says (Text left) (Text right) = Some (says (units_are_less (all_units (chars left)) (all_units (chars right))))
compared says v w = both (λ a b. Some (holds_of says (number_is_less a b))) (number_from v) (number_from w)

-- arithmetic

abbrev pub total : (JsNumber → JsNumber → JsNumber) → JsNumber → JsNumber → Option JsNumber
total operation left right = Some (operation left right)

-- 13.15.3 ApplyStringOrNumericBinaryOperator, of numbers
abbrev pub computed : (JsNumber → JsNumber → Option JsNumber) → Value → Value → Option Value
computed operation v w = option_map Number (both operation (number_from v) (number_from w))

abbrev pub joined : Value → Value → Option Value
joined v w = both (λ a b. Some (Text (a ++ b))) (text_from v) (text_from w)

-- 13.15.3 ApplyStringOrNumericBinaryOperator, of `+`: with a text both are joined
abbrev pub added : Value → Value → Option Value
added (Text a) w = joined (Text a) w
added v (Text b) = joined v (Text b)
added v w = computed sum_of v w

-- the value of an operator that evaluates both sides; `in` and `instanceof` look at objects
abbrev pub binary_value : BinaryOp → Value → Value → Option Value
binary_value binary.EqEq v w = option_map Truth (loosely_equal v w)
binary_value binary.NotEq v w = option_map (λ b. Truth (not b)) (loosely_equal v w)
binary_value binary.EqEqEq v w = option_map Truth (strictly_equal v w)
binary_value binary.NotEqEq v w = option_map (λ b. Truth (not b)) (strictly_equal v w)
binary_value binary.Lt v w = option_map Truth (compared (λ b. b) v w)
binary_value binary.LtEq v w = option_map Truth (compared not w v)
binary_value binary.Gt v w = option_map Truth (compared (λ b. b) w v)
binary_value binary.GtEq v w = option_map Truth (compared not v w)
binary_value binary.LShift v w = computed (total left_shift_of) v w
binary_value binary.RShift v w = computed (total right_shift_of) v w
binary_value binary.ZeroFillRShift v w = computed (total unsigned_right_shift_of) v w
binary_value binary.Add v w = added v w
binary_value binary.Sub v w = computed difference_of v w
binary_value binary.Mul v w = computed product_of v w
binary_value binary.Div v w = computed quotient_of v w
binary_value binary.Mod v w = computed remainder_of v w
binary_value binary.BitOr v w = computed (total (bitwise bit_or)) v w
binary_value binary.BitXor v w = computed (total (bitwise bit_xor)) v w
binary_value binary.BitAnd v w = computed (total (bitwise bit_and)) v w
binary_value binary.Exp v w = computed power_of v w
binary_value op v w = None

-- the operator of a compound assignment (13.15.2)
abbrev pub operator_of : AssignOp → Option BinaryOp
operator_of assign.AddAssign = Some binary.Add
operator_of assign.SubAssign = Some binary.Sub
operator_of assign.MulAssign = Some binary.Mul
operator_of assign.DivAssign = Some binary.Div
operator_of assign.ModAssign = Some binary.Mod
operator_of assign.LShiftAssign = Some binary.LShift
operator_of assign.RShiftAssign = Some binary.RShift
operator_of assign.ZeroFillRShiftAssign = Some binary.ZeroFillRShift
operator_of assign.BitOrAssign = Some binary.BitOr
operator_of assign.BitXorAssign = Some binary.BitXor
operator_of assign.BitAndAssign = Some binary.BitAnd
operator_of assign.ExpAssign = Some binary.Exp
operator_of op = None

-- whether an operator that may leave its right side out does so behind this left side (13.13 Binary Logical Operators); none for the others
abbrev pub short_circuit : BinaryOp → Value → Option Bool
short_circuit binary.LogicalAnd v = Some (not (truth_of v))
short_circuit binary.LogicalOr v = Some (truth_of v)
short_circuit binary.NullishCoalescing v = Some (not (is_nullish v))
short_circuit op v = None

abbrev pub logical_operator_of : AssignOp → Option BinaryOp
logical_operator_of assign.AndAssign = Some binary.LogicalAnd
logical_operator_of assign.OrAssign = Some binary.LogicalOr
logical_operator_of assign.NullishAssign = Some binary.NullishCoalescing
logical_operator_of op = None

-- a unary operator on a value (13.5); `typeof` and `delete` look at references
abbrev pub unary_value : UnaryOp → Value → Option Value
unary_value unary.Minus v = option_map (λ n. Number (unary_minus_of n)) (number_from v)
unary_value unary.Plus v = option_map Number (number_from v)
unary_value unary.Bang v = Some (Truth (not (truth_of v)))
unary_value unary.Tilde v = option_map (λ n. Number (complement_of n)) (number_from v)
unary_value unary.Void v = Some Undefined
unary_value op v = None

-- 13.4 Update Expressions: the number behind `++` or `--`
abbrev pub updated : UpdateOp → JsNumber → Option JsNumber
updated update.PlusPlus n = sum_of n (Whole (pos 1))
updated update.MinusMinus n = difference_of n (Whole (pos 1))
