use Rattle.std.proofs.Common.{sym, refl}
use Rattle.ecma_number.specs.Numeral.{code_point, decimal_integer, no_digits, pure}
use Rattle.ecma_number.proofs.DigitRuns.{holds_none}
use Rattle.ecma_number.proofs.Readings.{begins_within, behind_none, behind_read}
use Rattle.ecma_number.proofs.numerals.decimal_integer.Goals as goal

pub returns-then-stands-clause-read : goal.returns-then-stands-clause-read
unfolding decimal_integer
returns-then-stands-clause-read c =
    let zero = behind_read (code_point 48) (pure no_digits) c.args.text.now 0 (sym c.if-stands.ensures) in
    rw (c.in-Literal.is, zero) (holds_none 10, refl, begins_within (code_point 48) c.args.text.now 0 (sym c.if-stands.ensures))

pub returns-else-stands-clause-read : goal.returns-else-stands-clause-read
unfolding decimal_integer
returns-else-stands-clause-read c =
    let none = behind_none (code_point 48) (pure no_digits) c.args.text.now (sym c.if-stands.ensures) in
    let read = rw c.in-Literal.is at c.digits.ensures.read in
    rw (c.in-Literal.is, none) read

pub returns-in-Text-clause-read : goal.returns-in-Text-clause-read
unfolding decimal_integer
returns-in-Text-clause-read c =
    let read = rw c.in-Text.is at c.digits-in-Text.ensures.read in
    rw c.in-Text.is read
