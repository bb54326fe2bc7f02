-- The values of ECMAScript's Number type, cut to the domain.
use Rattle.std.specs.Prelude.{ℤ, pos, Bool, true, false, ◌==◌, Option, Some, None, if◌then◌else◌}
use Rattle.std.specs.Int.RustNames.{unsigned_abs, int_lt}
use Rattle.ecma_number.specs.SafeInt.{is_safe}
use Rattle.ecma_number.specs.declared.js_number.JsNumber.{JsNumber}
use Rattle.ecma_number.specs.declared.js_number.JsNumber.TheVariants.{Whole, NegZero, NaN, Infinity, NegInfinity}

-- the Number that is exactly this whole number, where it lies in the domain
abbrev pub whole_of : ℤ → Option JsNumber
whole_of number = (if is_safe number then Some (Whole number) else None)

-- the mathematical value of a finite Number, ℝ(number), and 0 for the others
abbrev pub value_of : JsNumber → ℤ
value_of (Whole number) = number
value_of number = pos 0

-- it is NaN
abbrev pub is_nan : JsNumber → Bool
is_nan NaN = true
is_nan number = false

-- it is an infinity
abbrev pub is_infinite : JsNumber → Bool
is_infinite Infinity = true
is_infinite NegInfinity = true
is_infinite number = false

-- it is a zero, of either sign
abbrev pub is_zero : JsNumber → Bool
is_zero (Whole number) = unsigned_abs number == 0
is_zero NegZero = true
is_zero number = false

-- its sign is a minus; NaN has none
abbrev pub is_negative : JsNumber → Bool
is_negative (Whole number) = int_lt number (pos 0)
is_negative NegZero = true
is_negative NegInfinity = true
is_negative number = false

-- the zero, and the infinity, of a sign
abbrev pub zero_of : Bool → JsNumber
zero_of negative = (if negative then NegZero else Whole (pos 0))

abbrev pub infinity_of : Bool → JsNumber
infinity_of negative = (if negative then NegInfinity else Infinity)

-- the Number that is exactly this whole number; a zero gets the sign
abbrev pub signed_whole_of : Bool → ℤ → Option JsNumber
signed_whole_of negative number = (if unsigned_abs number == 0 then Some (zero_of negative) else whole_of number)
