-- ECMAScript's equality of Numbers (6.1.6.1.13).
use Rattle.std.specs.Prelude.{pos, Bool, true, false}
use Rattle.std.specs.Ordering.{int_eq}
use Rattle.ecma_number.specs.declared.js_number.JsNumber.{JsNumber}
use Rattle.ecma_number.specs.declared.js_number.JsNumber.TheVariants.{Whole, NegZero, NaN, Infinity, NegInfinity}

-- the same value, or two zeros; NaN equals nothing
abbrev pub are_equal : JsNumber → JsNumber → Bool
are_equal NaN right = false
are_equal left NaN = false
are_equal (Whole left) (Whole right) = int_eq left right
are_equal NegZero NegZero = true
are_equal Infinity Infinity = true
are_equal NegInfinity NegInfinity = true
are_equal (Whole left) NegZero = int_eq left (pos 0)
are_equal NegZero (Whole right) = int_eq (pos 0) right
are_equal left right = false
