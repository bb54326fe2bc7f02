-- ECMAScript's operators on 32 bits (7.1.6, 7.1.7 and 6.1.6.1). Each result lies in the domain.
use Rattle.std.specs.Prelude.{ℕ, ℤ, pos, ◌-ℤ◌, ◌/◌, ◌%◌, ◌^◌, neg_ℤ}
use Rattle.std.specs.Int.{w32, int_rem_euclid, cast_signed, int_shl, int_shr}
use Rattle.std.specs.Int.RustNames.{unsigned_abs}
use Rattle.ecma_number.specs.JsNumber.{value_of}
use Rattle.ecma_number.specs.declared.js_number.JsNumber.{JsNumber}
use Rattle.ecma_number.specs.declared.js_number.JsNumber.TheVariants.{Whole}

-- 7.1.7 ToUint32: the value modulo 2 ^ 32, and 0 for what has none
abbrev pub uint32_of : JsNumber → ℕ
uint32_of number = unsigned_abs (int_rem_euclid (value_of number) (pos (2 ^ 32)))

-- 7.1.6 ToInt32: the same, less 2 ^ 32 where it is 2 ^ 31 or more
abbrev pub int32_of : JsNumber → ℤ
int32_of number = cast_signed w32 (uint32_of number)

-- shift counts are taken modulo 32
abbrev pub shift_count_of : JsNumber → ℕ
shift_count_of number = uint32_of number % 32

-- 6.1.6.1.2 Number::bitwiseNOT
abbrev pub complement_of : JsNumber → JsNumber
complement_of number = Whole (neg_ℤ (pos 1) -ℤ int32_of number)

-- 6.1.6.1.9 Number::leftShift
abbrev pub left_shift_of : JsNumber → JsNumber → JsNumber
left_shift_of left right = Whole (int_shl w32 (int32_of left) (shift_count_of right))

-- 6.1.6.1.10 Number::signedRightShift
abbrev pub right_shift_of : JsNumber → JsNumber → JsNumber
right_shift_of left right = Whole (int_shr (int32_of left) (shift_count_of right))

-- 6.1.6.1.11 Number::unsignedRightShift
abbrev pub unsigned_right_shift_of : JsNumber → JsNumber → JsNumber
unsigned_right_shift_of left right = Whole (pos (uint32_of left / 2 ^ shift_count_of right))

-- 6.1.6.1.16 NumberBitwiseOp, for `&`, `|` and `^`
abbrev pub bitwise : (ℕ → ℕ → ℕ) → JsNumber → JsNumber → JsNumber
bitwise operation left right = Whole (cast_signed w32 (operation (uint32_of left) (uint32_of right)))
