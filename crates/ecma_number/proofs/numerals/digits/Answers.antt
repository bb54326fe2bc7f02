use Rattle.std.proofs.Common.{sym}
use Rattle.ecma_number.specs.Numeral.{digits, no_digits}
use Rattle.ecma_number.proofs.DigitRuns.{holds_none}
use Rattle.ecma_number.proofs.numerals.digits.Goals as goal

pub returns-then-not-digit_stands-clause-read : goal.returns-then-not-digit_stands-clause-read
unfolding digits
returns-then-not-digit_stands-clause-read c = let none = sym c.if-not-digit_stands.ensures in rw none tt

pub returns-clause-read : goal.returns-clause-read
unfolding digits
returns-clause-read c =
    let some = sym c.if-not-digit_stands.ensures in
    rw some (c.more_digits.ensures.read no_digits (holds_none c.args.radix))
