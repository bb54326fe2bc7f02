-- The text of a Number.
use Rattle.std.specs.Prelude.{ℕ, List, codes}
use Rattle.std.specs.Fmt.{signed_decimal}
use Rattle.ecma_number.specs.declared.js_number.JsNumber.{JsNumber}
use Rattle.ecma_number.specs.declared.js_number.JsNumber.TheVariants.{Whole, NegZero, NaN, Infinity, NegInfinity}

-- 6.1.6.1.20 Number::toString with radix 10: whole numbers of at most 21 digits are written out
abbrev pub text_of : JsNumber → List ℕ
text_of NaN = codes "NaN"
text_of NegZero = codes "0"
text_of Infinity = codes "Infinity"
text_of NegInfinity = codes "-Infinity"
text_of (Whole number) = signed_decimal number
