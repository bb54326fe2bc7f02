-- `==` of two Numbers is true exactly where they are equal.
use Rattle.std.proofs.Common.{◌≡◌, true, rules}
use Rattle.ecma_number.specs.declared.js_number.JsNumber.{JsNumber}
use Rattle.ecma_number.specs.contracts.js_number.JsNumberPartialEq.TheImpl as js_number_eq

pub js_number_exact : (left right : JsNumber) → js_number_eq.ghosts.eq left right ≡ true → left ≡ right
js_number_exact left right same = search rules
