-- What folding makes of an expression, of what it makes of the parts.
use Rattle.std.specs.Prelude.{◌≡◌, ℕ, Bool, true, false, List, [], ◌∷◌, ◌++◌, Option, Some, None, Result, Ok, Err, bit_and, bit_or, bit_xor, if◌then◌else◌}
use Rattle.ecma_kind.specs.declared.operators.BinaryOp.{BinaryOp}
use Rattle.ecma_kind.specs.declared.operators.BinaryOp.TheVariants as binary
use Rattle.ecma_kind.specs.declared.operators.UnaryOp.{UnaryOp}
use Rattle.ecma_kind.specs.declared.operators.UnaryOp.TheVariants as unary
use Rattle.ecma_number.specs.Arithmetic.{difference_of, power_of, product_of, quotient_of, remainder_of, sum_of, unary_minus_of}
use Rattle.ecma_number.specs.Bits.{bitwise, complement_of, left_shift_of, right_shift_of, unsigned_right_shift_of}
use Rattle.ecma_number.specs.Text.{text_of}
use Rattle.ecma_number.specs.declared.js_number.JsNumber.{JsNumber}
use Rattle.ecma_enums.specs.declared.error.EnumError.{EnumError}
use Rattle.ecma_enums.specs.declared.error.EnumError.TheVariants.{EnumNumber, NoMemory}
use Rattle.ecma_enums.specs.declared.folded.Folded.{Folded}
use Rattle.ecma_enums.specs.declared.folded.Folded.TheVariants.{Text, Number, Opaque, Beyond}
use Rattle.ecma_enums.specs.declared.value.TsEnumRecordValue.{TsEnumRecordValue}
use Rattle.ecma_enums.specs.declared.value.TsEnumRecordValue.TheVariants as value

-- a number that stands or comes about at an offset
abbrev pub number_or_beyond : ℕ → Option JsNumber → Folded
number_or_beyond at (Some n) = Number n
number_or_beyond at None = Beyond at

-- what is known of a member that is recorded so
abbrev pub known : Option TsEnumRecordValue → Folded
known (Some (value.String text)) = Text text
known (Some (value.Number n)) = Number n
known _ = Opaque

-- the value of a member with an initialiser of which this is known
abbrev pub answer : Folded → Result TsEnumRecordValue EnumError
answer (Text text) = Ok (value.String text)
answer (Number n) = Ok (value.Number n)
answer Opaque = Ok value.Opaque
answer (Beyond at) = Err (EnumNumber at)

-- a call answers this, or there was no memory
abbrev pub Answers : {A : Type 0} → Result A EnumError → Result A EnumError → Type 0
Answers (Err NoMemory) wanted = Unit {0}
Answers result wanted = result ≡ wanted

-- ---- operators

-- `+`, `-` and `~` of a number
abbrev pub of_number : (JsNumber → JsNumber) → Folded → Folded
of_number operation (Number n) = Number (operation n)
of_number operation (Beyond at) = Beyond at
of_number operation _ = Opaque

-- what stands behind another operator is not looked at
abbrev pub unary_by : UnaryOp → Folded → Folded
unary_by unary.Plus operand = of_number (λ n. n) operand
unary_by unary.Minus operand = of_number unary_minus_of operand
unary_by unary.Tilde operand = of_number complement_of operand
unary_by _ operand = Opaque

-- the operators whose sides are looked at
abbrev pub is_arithmetic : BinaryOp → Bool
is_arithmetic binary.Add = true
is_arithmetic binary.Sub = true
is_arithmetic binary.Mul = true
is_arithmetic binary.Div = true
is_arithmetic binary.Mod = true
is_arithmetic binary.Exp = true
is_arithmetic binary.LShift = true
is_arithmetic binary.RShift = true
is_arithmetic binary.ZeroFillRShift = true
is_arithmetic binary.BitAnd = true
is_arithmetic binary.BitOr = true
is_arithmetic binary.BitXor = true
is_arithmetic _ = false

-- of two numbers (ECMAScript, 6.1.6.1), where it is one of those that are computed
abbrev pub result_of : BinaryOp → JsNumber → JsNumber → Option JsNumber
result_of binary.Add left right = sum_of left right
result_of binary.Sub left right = difference_of left right
result_of binary.Mul left right = product_of left right
result_of binary.Div left right = quotient_of left right
result_of binary.Mod left right = remainder_of left right
result_of binary.Exp left right = power_of left right
result_of binary.LShift left right = Some (left_shift_of left right)
result_of binary.RShift left right = Some (right_shift_of left right)
result_of binary.ZeroFillRShift left right = Some (unsigned_right_shift_of left right)
result_of binary.BitAnd left right = Some (bitwise bit_and left right)
result_of binary.BitOr left right = Some (bitwise bit_or left right)
result_of binary.BitXor left right = Some (bitwise bit_xor left right)
result_of _ left right = None

-- ECMAScript's ToString of what is known
abbrev pub as_text : Folded → Folded
as_text (Number n) = Text (text_of n)
as_text part = part

-- two texts, one behind the other; of two that are beyond the first in the text is told, and one beside what is opaque is told too
abbrev pub joined : Folded → Folded → Folded
joined (Beyond at) right = Beyond at
joined left (Beyond at) = Beyond at
joined (Text left) (Text right) = Text (left ++ right)
joined left right = Opaque

-- `+` with a text on one side
abbrev pub texts_by : BinaryOp → Folded → Folded → Folded
texts_by binary.Add left right = joined (as_text left) (as_text right)
texts_by _ left right = joined Opaque (as_text right)

-- of an expression at an offset; its sides are known, opaque or beyond
abbrev pub sides_by : ℕ → BinaryOp → Folded → Folded → Folded
sides_by at op (Beyond place) right = Beyond place
sides_by at op (Number left) (Number right) = number_or_beyond at (result_of op left right)
sides_by at op left right = texts_by op left right

abbrev pub binary_by : ℕ → BinaryOp → Folded → Folded → Folded
binary_by at op left right = if is_arithmetic op then sides_by at op left right else Opaque

-- ---- templates

-- the text parts of a template with its expressions between them, as one text
unfoldable pub template : List Folded → List Folded → Folded
template [] expressions = Text []
template (part ∷ parts) [] = joined (as_text part) (template parts [])
template (part ∷ parts) (e ∷ es) = joined (as_text part) (joined (as_text e) (template parts es))
