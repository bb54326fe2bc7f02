use Rattle.std.proofs.Common.{sym, refl, ◌≡◌, drop, None, rules}
use Rattle.ecma_number.specs.DigitRun.{Holds}
use Rattle.ecma_number.specs.Numeral.{exponent_part, letter, signed_integer}
use Rattle.ecma_number.proofs.Readings.{behind_none, behind_read, reads_none, reads_some}
use Rattle.ecma_number.proofs.numerals.exponent_part.Goals as goal

pub returns-then-not-letter_stands : goal.returns-then-not-letter_stands
unfolding exponent_part
returns-then-not-letter_stands c =
    let none = behind_none (letter 101) (signed_integer c.args.form) (drop c.args.at c.args.text.now) (sym c.if-not-letter_stands.ensures) in rw none tt

pub returns-in_err-run : goal.returns-in_err-run
unfolding exponent_part signed_integer
returns-in_err-run c =
    let none : c.from_residual.result ≡ None = search rules in
    let first = behind_read (letter 101) (signed_integer c.args.form) c.args.text.now c.args.at (sym c.if-not-letter_stands.ensures) in
    let sign = c.sign-is_negative.ensures.read in
    let size = reads_none (Holds 10) c.args.text.now _ c.in_err-run.ensures.read in
    rw (none, first, sign, size) tt

pub returns : goal.returns
unfolding exponent_part signed_integer
returns c =
    let first = behind_read (letter 101) (signed_integer c.args.form) c.args.text.now c.args.at (sym c.if-not-letter_stands.ensures) in
    let sign = c.sign-is_negative.ensures.read in
    let size = reads_some (Holds 10) c.args.text.now _ _ c.in_ok-run.ensures.read in
    let read = size.1 in
    rw (first, sign, read) (record { size = size.0.mv; parts = refl; saturates = c.value.ensures size.0 size.2 }, refl, size.3)
