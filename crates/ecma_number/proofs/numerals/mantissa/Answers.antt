use Rattle.std.proofs.Common.{sym, refl}
use Rattle.ecma_number.specs.DigitRun.{Holds, HoldsMantissa}
use Rattle.ecma_number.specs.Numeral.{code_point, digits, mantissa, no_digits, pure, with_fraction, ◌>>=◌}
use Rattle.ecma_number.proofs.DigitRuns.{holds_fraction}
use Rattle.ecma_number.proofs.Readings.{behind_none, behind_read, reads_map, reads_none, reads_some}
use Rattle.ecma_number.proofs.numerals.mantissa.Goals as goal

pub returns-in-Some-clause-read : goal.returns-in-Some-clause-read
unfolding mantissa
returns-in-Some-clause-read c =
    let whole = reads_some (Holds 10) c.args.text.now _ _ c.in-Some.ensures.read in
    let fraction = reads_some HoldsMantissa c.args.text.now _ _ (c.fraction.ensures.read whole.0 whole.2) in
    let a = whole.1 in
    let b = fraction.1 in
    rw (a, b) (fraction.2, refl, fraction.3)

pub returns-then-not-stands-clause-read : goal.returns-then-not-stands-clause-read
unfolding mantissa
returns-then-not-stands-clause-read c =
    let whole = reads_none (Holds 10) c.args.text.now _ c.in_default.ensures.read in
    let point = behind_none (code_point 46) (digits c.args.form 10 >>= λ fraction. pure (with_fraction no_digits fraction)) c.args.text.now (sym c.if-not-stands.ensures) in
    rw (whole, point) tt

pub returns-clause-read : goal.returns-clause-read
unfolding mantissa
returns-clause-read c =
    let whole = reads_none (Holds 10) c.args.text.now _ c.in_default.ensures.read in
    let point = behind_read (code_point 46) (digits c.args.form 10 >>= λ fraction. pure (with_fraction no_digits fraction)) c.args.text.now 0 (sym c.if-not-stands.ensures) in
    rw (whole, point) (reads_map (Holds 10) HoldsMantissa (with_fraction no_digits) c.args.text.now _ _ holds_fraction c.digits.ensures.read)
