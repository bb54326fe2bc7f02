use Rattle.std.proofs.Common.{◌≡◌, ap, refl, ℕ, ◌*◌, ◌^◌, Some, arith}
use Rattle.ecma_number.specs.DigitRun.{HoldsInteger}
use Rattle.ecma_number.specs.Saturated.{saturated}
use Rattle.ecma_number.specs.Numeral.{numeric_literal}
use Rattle.ecma_number.proofs.Readings.{reads_none, reads_some}
use Rattle.ecma_number.proofs.numerals.numeric_literal.Goals as goal

integer_size : (size mv : ℕ) → size ≡ saturated mv → Some size ≡ Some (saturated (mv * 10 ^ 0))
integer_size size mv is = ap Some (omega arith)

pub returns-in-Some : goal.returns-in-Some
unfolding numeric_literal
returns-in-Some c =
    let read = reads_some HoldsInteger c.args.text.now _ _ c.in-Some.ensures in
    let is = read.1 in
    rw is (integer_size _ read.0.mv read.2, refl, read.3)

pub returns : goal.returns
unfolding numeric_literal
returns c =
    let first = reads_none HoldsInteger c.args.text.now _ c.in_default.ensures in
    rw first c.decimal_literal.ensures
