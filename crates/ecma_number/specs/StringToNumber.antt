-- The Number that a text stands for: ECMAScript, 7.1.4.1 ToNumber Applied to the String Type.
use Rattle.std.specs.Prelude.{ℕ, pos, Bool, false, ◌==◌, List, length, codes, bytes_eq, Option, Some, None, if◌then◌else◌}
use Rattle.ecma_number.specs.declared.js_number.JsNumber.{JsNumber}
use Rattle.ecma_number.specs.declared.js_number.JsNumber.TheVariants.{Whole, NaN}
use Rattle.ecma_number.specs.declared.numerals.NumeralForm.TheVariants.{Text}
use Rattle.ecma_number.specs.declared.value.Value.{Value}
use Rattle.ecma_number.specs.declared.value.Value.TheVariants.{Known, Unknown}
use Rattle.ecma_number.specs.JsNumber.{infinity_of}
use Rattle.ecma_number.specs.Numeral.{Digits, MathematicalValue, decimal_literal, integer, maybe, non_decimal_integer_literal, number_of, sign, whole_text}
use Rattle.ecma_number.specs.Blanks.{front_trimmed, end_trimmed}

-- a Number outside the domain is unknown
abbrev pub known_of : Option JsNumber → Value JsNumber
known_of (Some number) = Known number
known_of None = Unknown

-- what is no numeral is NaN
abbrev pub known_or_nan : Bool → Option MathematicalValue → Value JsNumber
known_or_nan negative (Some value) = known_of (number_of negative value)
known_or_nan negative None = Known NaN

-- StrUnsignedDecimalLiteral: `Infinity`, or a decimal literal without separators, which may begin with zeros
unfoldable pub unsigned_text_number_of : Bool → List ℕ → Value JsNumber
unsigned_text_number_of negative text =
    (if bytes_eq text (codes "Infinity") then Known (infinity_of negative)
    else known_or_nan negative (whole_text (decimal_literal Text) text))

-- StrDecimalLiteral: a sign or none, and a literal without one
abbrev pub behind_sign : Option (Bool × List ℕ) → Value JsNumber
behind_sign (Some read) = unsigned_text_number_of read.0 read.1
behind_sign None = Known NaN

-- StrNumericLiteral: a NonDecimalIntegerLiteral, or else a StrDecimalLiteral
abbrev pub integer_or_decimal : List ℕ → Option Digits → Value JsNumber
integer_or_decimal text (Some value) = known_of (number_of false (integer value))
integer_or_decimal text None = behind_sign (maybe false sign text)

-- StringNumericLiteral without the white space round it: no text is 0
unfoldable pub trimmed_text_number_of : List ℕ → Value JsNumber
trimmed_text_number_of text =
    (if length text == 0 then Known (Whole (pos 0)) else integer_or_decimal text (whole_text (non_decimal_integer_literal Text) text))

-- StringToNumber
abbrev pub text_number_of : List ℕ → Value JsNumber
text_number_of text = trimmed_text_number_of (end_trimmed (front_trimmed text))
