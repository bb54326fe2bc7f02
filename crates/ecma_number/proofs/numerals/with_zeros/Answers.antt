use Rattle.ecma_number.proofs.Saturated.{saturated-zeros}
use Rattle.ecma_number.proofs.numerals.with_zeros.Goals as goal

pub returns : goal.returns
returns c = rw (c.saturating_mul.ensures, c.saturating_pow-power.ensures, c.min.ensures, c.from.ensures) (saturated-zeros c.args.radix c.args.value c.args.zeros c.requires.least)
