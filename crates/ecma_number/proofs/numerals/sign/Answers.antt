use Rattle.std.proofs.Common.{sym}
use Rattle.ecma_number.proofs.Readings.{plus_read, minus_read}
use Rattle.ecma_number.proofs.numerals.sign.Goals as goal

pub returns-then-stands-clause-read : goal.returns-then-stands-clause-read
returns-then-stands-clause-read c = plus_read c.args.text.now c.args.at (sym c.if-stands.ensures)

pub returns-then-stands-2-clause-read : goal.returns-then-stands-2-clause-read
returns-then-stands-2-clause-read c = minus_read c.args.text.now c.args.at (sym c.if-stands-2.ensures)
