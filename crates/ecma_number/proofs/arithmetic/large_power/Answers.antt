use Rattle.std.specs.Int.{int_pow}
use Rattle.ecma_number.proofs.Powers.{whole_of-past, int_pow-past}
use Rattle.ecma_number.proofs.arithmetic.large_power.Goals as goal

pub returns-then-exponent-ge53 : goal.returns-then-exponent-ge53
returns-then-exponent-ge53 c =
    whole_of-past (int_pow c.args.base c.args.exponent)
    (int_pow-past c.args.base c.args.exponent c.requires.large c.if-exponent-ge53.true)
