use Rattle.std.proofs.Common.{refl, ◌≡◌, None, rules}
use Rattle.ecma_number.specs.DigitRun.{HoldsMantissa, HoldsSigned}
use Rattle.ecma_number.specs.Numeral.{decimal_literal}
use Rattle.ecma_number.proofs.Readings.{reads_none, reads_some}
use Rattle.ecma_number.proofs.numerals.decimal_literal.Goals as goal

pub returns-in_err-run : goal.returns-in_err-run
unfolding decimal_literal
returns-in_err-run c =
    let none : c.from_residual.result ≡ None = search rules in
    let read = reads_none HoldsMantissa c.args.text.now _ c.in_err-run.ensures.read in
    rw (none, read) tt

pub returns : goal.returns
unfolding decimal_literal
returns c =
    let mantissa = reads_some HoldsMantissa c.args.text.now _ _ c.in_ok-run.ensures.read in
    let exponent = reads_some HoldsSigned c.args.text.now _ _ c.exponent-end.ensures in
    let a = mantissa.1 in
    let b = exponent.1 in
    rw (a, b) (c.whole_size.ensures mantissa.0 exponent.0 mantissa.2 exponent.2, refl, exponent.3)
