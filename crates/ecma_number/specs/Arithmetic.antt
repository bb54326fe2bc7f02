-- ECMAScript's arithmetic on Numbers (6.1.6.1): the exact result, where it lies in the domain.
use Rattle.std.specs.Prelude.{ℤ, pos, ◌+ℤ◌, ◌*ℤ◌, ◌%◌, neg_ℤ, int_div, int_rem, int_lt, Bool, ◌||◌, ◌&&◌, ◌==◌, not, Option, Some, None, if◌then◌else◌}
use Rattle.std.specs.Bool.{beq}
use Rattle.std.specs.Int.{int_pow}
use Rattle.std.specs.Int.RustNames.{unsigned_abs}
use Rattle.ecma_number.specs.JsNumber.{whole_of, signed_whole_of, value_of, is_nan, is_infinite, is_zero, is_negative, zero_of, infinity_of}
use Rattle.ecma_number.specs.declared.js_number.JsNumber.{JsNumber}
use Rattle.ecma_number.specs.declared.js_number.JsNumber.TheVariants.{Whole, NegZero, NaN, Infinity, NegInfinity}

-- 6.1.6.1.1 Number::unaryMinus
abbrev pub unary_minus_of : JsNumber → JsNumber
unary_minus_of (Whole number) = (if unsigned_abs number == 0 then NegZero else Whole (neg_ℤ number))
unary_minus_of NegZero = Whole (pos 0)
unary_minus_of NaN = NaN
unary_minus_of Infinity = NegInfinity
unary_minus_of NegInfinity = Infinity

-- 6.1.6.1.7 Number::add
abbrev pub sum_of : JsNumber → JsNumber → Option JsNumber
sum_of NaN right = Some NaN
sum_of left NaN = Some NaN
sum_of Infinity NegInfinity = Some NaN
sum_of NegInfinity Infinity = Some NaN
sum_of Infinity right = Some Infinity
sum_of NegInfinity right = Some NegInfinity
sum_of left Infinity = Some Infinity
sum_of left NegInfinity = Some NegInfinity
sum_of NegZero NegZero = Some NegZero
sum_of left right = whole_of (value_of left +ℤ value_of right)

-- 6.1.6.1.8 Number::subtract
abbrev pub difference_of : JsNumber → JsNumber → Option JsNumber
difference_of left right = sum_of left (unary_minus_of right)

-- a product or a quotient has a minus exactly where one side has (IEEE 754-2019, 6.3)
abbrev pub signs_differ : JsNumber → JsNumber → Bool
signs_differ left right = not (beq (is_negative left) (is_negative right))

-- 6.1.6.1.4 Number::multiply
unfoldable pub product_of : JsNumber → JsNumber → Option JsNumber
product_of left right =
    (if is_nan left || is_nan right then Some NaN
    else (if is_infinite left || is_infinite right
    then (if is_zero left || is_zero right then Some NaN else Some (infinity_of (signs_differ left right)))
    else signed_whole_of (signs_differ left right) (value_of left *ℤ value_of right)))

-- the quotient of two whole numbers, where it is whole
abbrev pub whole_quotient_of : Bool → ℤ → ℤ → Option JsNumber
whole_quotient_of negative left right =
    (if unsigned_abs (int_rem left right) == 0 then signed_whole_of negative (int_div left right) else None)

-- 6.1.6.1.5 Number::divide
unfoldable pub quotient_of : JsNumber → JsNumber → Option JsNumber
quotient_of left right =
    (if is_nan left || is_nan right then Some NaN
    else (if is_infinite left
    then (if is_infinite right then Some NaN else Some (infinity_of (signs_differ left right)))
    else (if is_infinite right then Some (zero_of (signs_differ left right))
    else (if is_zero right
    then (if is_zero left then Some NaN else Some (infinity_of (signs_differ left right)))
    else whole_quotient_of (signs_differ left right) (value_of left) (value_of right)))))

-- 6.1.6.1.6 Number::remainder
unfoldable pub remainder_of : JsNumber → JsNumber → Option JsNumber
remainder_of left right =
    (if is_nan left || is_nan right then Some NaN
    else (if is_infinite left then Some NaN
    else (if is_infinite right then Some left
    else (if is_zero right then Some NaN
    else signed_whole_of (is_negative left) (int_rem (value_of left) (value_of right))))))

-- it is an odd whole number
abbrev pub is_odd : JsNumber → Bool
is_odd number = unsigned_abs (value_of number) % 2 == 1

-- the power of a whole number other than 0: below exponent 0 it is whole for 1 and -1 alone
abbrev pub whole_power_of : ℤ → ℤ → Option JsNumber
whole_power_of base exponent =
    (if int_lt exponent (pos 0) && not (unsigned_abs base == 1) then None
    else whole_of (int_pow base (unsigned_abs exponent)))

-- the power of an infinity and of a zero, whose sign is given, and the power to an infinity
abbrev pub power_of_infinity : Bool → JsNumber → JsNumber
power_of_infinity negative exponent = (if is_negative exponent then zero_of negative else infinity_of negative)

abbrev pub power_of_zero : Bool → JsNumber → JsNumber
power_of_zero negative exponent = (if is_negative exponent then infinity_of negative else zero_of negative)

abbrev pub power_to_infinity : ℤ → JsNumber → JsNumber
power_to_infinity base exponent =
    (if unsigned_abs base == 1 then NaN else (if is_negative exponent then Whole (pos 0) else Infinity))

-- 6.1.6.1.3 Number::exponentiate
unfoldable pub power_of : JsNumber → JsNumber → Option JsNumber
power_of base exponent =
    let negative = is_negative base && is_odd exponent in
    (if is_nan exponent then Some NaN
    else (if is_zero exponent then Some (Whole (pos 1))
    else (if is_nan base then Some NaN
    else (if is_infinite base then Some (power_of_infinity negative exponent)
    else (if is_zero base then Some (power_of_zero negative exponent)
    else (if is_infinite exponent then Some (power_to_infinity (value_of base) exponent)
    else whole_power_of (value_of base) (value_of exponent)))))))
