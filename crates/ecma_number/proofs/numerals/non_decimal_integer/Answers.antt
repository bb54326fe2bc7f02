use Rattle.std.proofs.Common.{sym, refl, ◌≡◌, None, rules}
use Rattle.ecma_number.specs.DigitRun.{Holds}
use Rattle.ecma_number.specs.Numeral.{code_point, non_decimal_integer_literal, radix_and_digits}
use Rattle.ecma_number.proofs.Readings.{behind_none, behind_read, reads_none, reads_some}
use Rattle.ecma_number.proofs.numerals.non_decimal_integer.Goals as goal

pub returns-then-not-stands : goal.returns-then-not-stands
unfolding non_decimal_integer_literal
returns-then-not-stands c =
    let none = behind_none (code_point 48) (radix_and_digits c.args.form) c.args.text.now (sym c.if-not-stands.ensures) in rw none tt

pub returns-in_err-radix : goal.returns-in_err-radix
unfolding non_decimal_integer_literal
returns-in_err-radix c =
    let none : c.from_residual.result ≡ None = search rules in
    let zero = behind_read (code_point 48) (radix_and_digits c.args.form) c.args.text.now 0 (sym c.if-not-stands.ensures) in
    let radix = c.in_err-radix.ensures.radix c.args.form in
    rw (none, zero, radix) tt

pub returns-in_err-run : goal.returns-in_err-run
unfolding non_decimal_integer_literal
returns-in_err-run c =
    let none : c.from_residual-in_err-run.result ≡ None = search rules in
    let zero = behind_read (code_point 48) (radix_and_digits c.args.form) c.args.text.now 0 (sym c.if-not-stands.ensures) in
    let radix = c.in_ok-radix.ensures.radix c.args.form in
    let digits = reads_none (Holds c.in_ok-radix.radix) c.args.text.now _ c.in_err-run.ensures.read in
    rw (none, zero, radix, digits) tt

pub returns : goal.returns
unfolding non_decimal_integer_literal
returns c =
    let zero = behind_read (code_point 48) (radix_and_digits c.args.form) c.args.text.now 0 (sym c.if-not-stands.ensures) in
    let radix = c.in_ok-radix.ensures.radix c.args.form in
    let digits = reads_some (Holds c.in_ok-radix.radix) c.args.text.now _ _ c.in_ok-run.ensures.read in
    let read = digits.1 in
    rw (zero, radix, read) (c.value.ensures digits.0 digits.2, refl, digits.3)
