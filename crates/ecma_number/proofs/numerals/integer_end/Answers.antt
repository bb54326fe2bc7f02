use Rattle.std.proofs.Common.{refl, ◌≡◌, None, rules}
use Rattle.ecma_number.specs.DigitRun.{Holds, HoldsInteger}
use Rattle.ecma_number.specs.Numeral.{integer_literal}
use Rattle.ecma_number.proofs.Readings.{reads_none, reads_some}
use Rattle.ecma_number.proofs.numerals.integer_end.Goals as goal

pub returns-in-Some : goal.returns-in-Some
unfolding integer_literal
returns-in-Some c =
    let read = reads_some HoldsInteger c.args.text.now _ _ c.in-Some.ensures in
    let is = read.1 in
    rw is (refl, read.3)

pub returns-in_err-end : goal.returns-in_err-end
unfolding integer_literal
returns-in_err-end c =
    let none : c.from_residual.result ≡ None = search rules in
    let first = reads_none HoldsInteger c.args.text.now _ c.in_default.ensures in
    let second = reads_none (Holds 10) c.args.text.now _ c.in_err-end.ensures.read in
    rw (none, first, second) tt

pub returns : goal.returns
unfolding integer_literal
returns c =
    let first = reads_none HoldsInteger c.args.text.now _ c.in_default.ensures in
    let read = reads_some (Holds 10) c.args.text.now _ _ c.in_ok-end.ensures.read in
    let is = read.1 in
    rw (first, is) (refl, read.3)
