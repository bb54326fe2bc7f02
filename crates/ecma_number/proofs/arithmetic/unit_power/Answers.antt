use Rattle.std.proofs.Common.{◌≡◌, ◌%◌, ◌∙◌, sym, arith}
use Rattle.std.proofs.lemmas.Int.{to_z-of_z}
use Rattle.ecma_number.proofs.Powers.{int_pow-unit_even, int_pow-unit_odd}
use Rattle.ecma_number.proofs.arithmetic.unit_power.Goals as goal

pub returns-then-exponent-eq0 : goal.returns-then-exponent-eq0
returns-then-exponent-eq0 c =
    sym (int_pow-unit_even c.args.base c.args.exponent c.requires c.if-exponent-eq0.true)

pub returns-else-exponent-eq0 : goal.returns-else-exponent-eq0
returns-else-exponent-eq0 c =
    let odd : c.args.exponent % 2 ≡ 1 = omega arith in
    to_z-of_z _ _ c.ranges.base ∙ sym (int_pow-unit_odd c.args.base c.args.exponent c.requires odd)
