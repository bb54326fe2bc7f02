-- Numeric literals: ECMAScript, 12.9.3 Numeric Literals, each production with its mathematical value (MV); 7.1.4.1 reads texts by the same productions.
-- Characters go by their codes.
use Rattle.std.specs.Prelude.{◌≡◌, ℕ, ◌+◌, ◌-◌, ◌*◌, ◌/◌, ◌%◌, ◌^◌, ℤ, pos, negsuc, ◌+ℤ◌, neg_ℤ, suc, Bool, true, false, ◌&&◌, ◌==◌, List, [], ◌∷◌, length, Option, Some, None, option_map, option_and_then, if◌then◌else◌}
use Rattle.std.specs.Char.{is_digit, digit_value, eq_ignore_ascii_case}
use Rattle.ecma_number.specs.declared.js_number.JsNumber.{JsNumber}
use Rattle.ecma_number.specs.declared.numerals.NumeralForm.{NumeralForm}
use Rattle.ecma_number.specs.declared.numerals.NumeralForm.TheVariants.{Literal, Text}
use Rattle.ecma_number.specs.JsNumber.{signed_whole_of}

-- ---- the words of the grammar

-- a production reads characters from the first on: its value and the characters that are left, or none where it does not stand
abbrev pub Reading : Type 0 → Type 0
Reading A = List ℕ → Option (A × List ℕ)

-- nothing is read
abbrev pub pure : {A : Type 0} → A → Reading A
pure value text = Some (value, text)

-- the text begins with a character that passes
abbrev pub begins : (ℕ → Bool) → List ℕ → Bool
begins passes [] = false
begins passes (first ∷ others) = passes first

-- a character that passes, and directly after it a production
infixr 6 ◌>>◌
abbrev pub ◌>>◌ : {A : Type 0} → (ℕ → Bool) → Reading A → Reading A
◌>>◌ passes read [] = None
◌>>◌ passes read (first ∷ others) = (if passes first then read others else None)

-- this character, and this letter in either case
abbrev pub code_point : ℕ → ℕ → Bool
code_point wanted character = character == wanted

abbrev pub letter : ℕ → ℕ → Bool
letter wanted character = eq_ignore_ascii_case character wanted

-- a production, and directly after it the one that its value asks for
abbrev pub then_read : {A B : Type 0} → (A → Reading B) → Option (A × List ℕ) → Option (B × List ℕ)
then_read next None = None
then_read next (Some read) = next read.0 read.1

infixl 7 ◌>>=◌
abbrev pub ◌>>=◌ : {A B : Type 0} → Reading A → (A → Reading B) → Reading B
◌>>=◌ read next text = then_read next (read text)

-- ordered choice: the second where the first does not stand
abbrev pub or_read : {A : Type 0} → Reading A → List ℕ → Option (A × List ℕ) → Option (A × List ℕ)
or_read second text None = second text
or_read second text (Some read) = Some read

infixr 5 ◌//◌
abbrev pub ◌//◌ : {A : Type 0} → Reading A → Reading A → Reading A
◌//◌ first second text = or_read second text (first text)

-- what may be missing, and its value then
abbrev pub maybe : {A : Type 0} → A → Reading A → Reading A
maybe missing read = read // pure missing

-- the value of a text that is one such production and nothing else
abbrev pub value_if_all : {A : Type 0} → A × List ℕ → Option A
value_if_all read = (if length read.1 == 0 then Some read.0 else None)

abbrev pub whole_text : {A : Type 0} → Reading A → List ℕ → Option A
whole_text read text = option_and_then value_if_all (read text)

-- how many characters a production takes, each of one byte
abbrev pub taken : {A : Type 0} → Reading A → List ℕ → Option ℕ
taken read text = option_map (λ done. length text - length done.1) (read text)

-- ---- digits

-- the grammar's parameter Sep: a NumericLiteralSeparator, `_` (95), may stand between two digits of a literal
abbrev pub has_separators : NumeralForm → Bool
has_separators Literal = true
has_separators Text = false

-- the MV of digits, and how many there are, separators left out
pub record Digits : Type 0 where
  pub mv : ℕ
  pub count : ℕ

abbrev pub no_digits : Digits
no_digits = record { mv = 0; count = 0 }

-- DecimalDigits :: DecimalDigits DecimalDigit has the MV of DecimalDigits × 10 plus that of DecimalDigit; so with the other radices
abbrev pub with_digit : ℕ → Digits → ℕ → Digits
with_digit radix before character = record { mv = before.mv * radix + digit_value character; count = before.count + 1 }

-- the digits that follow others, as far as they go
abbrev pub more_digits : NumeralForm → ℕ → Digits → List ℕ → Digits × List ℕ
more_digits form radix before [] = (before, [])
more_digits form radix before (first ∷ others) =
    (if is_digit first radix then more_digits form radix (with_digit radix before first) others
    else (if has_separators form && (first == 95 && begins (λ next. is_digit next radix) others) then more_digits form radix before others
    else (before, first ∷ others)))

-- DecimalDigits, BinaryDigits, OctalDigits and HexDigits
unfoldable pub digits : NumeralForm → ℕ → Reading Digits
digits form radix text =
    (if begins (λ first. is_digit first radix) text then Some (more_digits form radix no_digits text) else None)

-- DecimalIntegerLiteral: `0` (48), or digits that do not begin with it. In a text, any DecimalDigits
unfoldable pub decimal_integer : NumeralForm → Reading Digits
decimal_integer Literal = code_point 48 >> pure no_digits // digits Literal 10
decimal_integer Text = digits Text 10

-- ---- decimal literals

-- significand × 10 ^ power
pub record MathematicalValue : Type 0 where
  pub significand : ℕ
  pub power : ℤ

abbrev pub times_power : MathematicalValue → ℤ → MathematicalValue
times_power value power = record { significand = value.significand; power = value.power +ℤ power }

-- the MV of the integer part plus that of the digits after the point × 10 ^ -n, where there are n of them
abbrev pub with_fraction : Digits → Digits → MathematicalValue
with_fraction whole fraction = record { significand = whole.mv * 10 ^ fraction.count + fraction.mv; power = neg_ℤ (pos fraction.count) }

-- SignedInteger: `+` (43), `-` (45) or neither, and digits
abbrev pub signed : Bool → ℕ → ℤ
signed negative size = (if negative then neg_ℤ (pos size) else pos size)

abbrev pub sign : Reading Bool
sign = code_point 43 >> pure false // code_point 45 >> pure true

unfoldable pub signed_integer : NumeralForm → Reading ℤ
signed_integer form = maybe false sign >>= λ negative. digits form 10 >>= λ size. pure (signed negative size.mv)

-- ExponentPart: `e` (101) in either case, and a power of ten
unfoldable pub exponent_part : NumeralForm → Reading ℤ
exponent_part form = letter 101 >> signed_integer form

-- a point (46), and digits or none after it
unfoldable pub point_and_digits : NumeralForm → Reading Digits
point_and_digits form = code_point 46 >> maybe no_digits (digits form 10)

abbrev pub fraction_behind : NumeralForm → Digits → Reading MathematicalValue
fraction_behind form whole = maybe no_digits (point_and_digits form) >>= λ fraction. pure (with_fraction whole fraction)

-- the digits of a DecimalLiteral before its exponent
unfoldable pub mantissa : NumeralForm → Reading MathematicalValue
mantissa form =
    (decimal_integer form >>= fraction_behind form)
    // (code_point 46 >> (digits form 10 >>= λ fraction. pure (with_fraction no_digits fraction)))

-- DecimalLiteral, and StrUnsignedDecimalLiteral but for `Infinity`
unfoldable pub decimal_literal : NumeralForm → Reading MathematicalValue
decimal_literal form =
    mantissa form >>= λ value. maybe (pos 0) (exponent_part form) >>= λ power. pure (times_power value power)

-- ---- literals with a prefix, and all

-- NonDecimalIntegerLiteral: `0`, a letter in either case, `x` (120), `o` (111) or `b` (98), and digits of its radix
abbrev pub radix_and_digits : NumeralForm → Reading Digits
radix_and_digits form = letter 120 >> digits form 16 // letter 111 >> digits form 8 // letter 98 >> digits form 2

unfoldable pub non_decimal_integer_literal : NumeralForm → Reading Digits
non_decimal_integer_literal form = code_point 48 >> radix_and_digits form

-- the MV of an integer
abbrev pub integer : Digits → MathematicalValue
integer value = record { significand = value.mv; power = pos 0 }

-- NumericLiteral of a Number, without the legacy forms that begin with `0` before another digit
unfoldable pub numeric_literal : Reading MathematicalValue
numeric_literal = (non_decimal_integer_literal Literal >>= λ value. pure (integer value)) // decimal_literal Literal

-- NumericLiteral of a BigInt: an integer, and `n` (110) directly after it
unfoldable pub integer_literal : Reading Digits
integer_literal = non_decimal_integer_literal Literal // decimal_integer Literal

unfoldable pub big_int_literal : Reading Digits
big_int_literal = integer_literal >>= λ value. code_point 110 >> pure value

-- ---- Numbers

-- the value, where it is whole
abbrev pub exact_quotient : ℕ → ℕ → Option ℕ
exact_quotient number divisor = (if number % divisor == 0 then Some (number / divisor) else None)

abbrev pub whole_value : ℕ → ℤ → Option ℕ
whole_value significand (pos power) = Some (significand * 10 ^ power)
whole_value significand (negsuc power) = exact_quotient significand (10 ^ suc power)

-- the Number of a size and a sign, where it lies in the domain
abbrev pub signed_number_of : Bool → ℕ → Option JsNumber
signed_number_of negative size = signed_whole_of negative (signed negative size)

-- the Number that is exactly a value with a sign, where it lies in the domain
abbrev pub number_of : Bool → MathematicalValue → Option JsNumber
number_of negative value = option_and_then (signed_number_of negative) (whole_value value.significand value.power)

-- the Number of a text that is a NumericLiteral, where its value lies in the domain; a BigInt has none
unfoldable pub numeral_of : List ℕ → Option JsNumber
numeral_of text = option_and_then (number_of false) (whole_text numeric_literal text)

-- a text is a NumericLiteral of a Number: it has an MV, and its Number is that of the MV
pub record IsNumericLiteral (text : List ℕ) : Type 0 where
  pub value : MathematicalValue
  pub all : whole_text numeric_literal text ≡ Some value
  pub number : numeral_of text ≡ number_of false value

-- a text is a NumericLiteral of a BigInt, and this is its MV
pub record IsBigIntLiteral (text : List ℕ) : Type 0 where
  pub value : Digits
  pub all : whole_text big_int_literal text ≡ Some value
