use Rattle.std.proofs.Common.{rules, arith, refl}
use Rattle.ecma_print.proofs.Parts.{no_part, some_part}
use Rattle.ecma_print.proofs.inside.Inside.substitution.Goals as goal

pub returns-then-index-len : goal.returns-then-index-len
returns-then-index-len g c rest = rw (no_part c.args.expressions.now c.args.index (omega arith)) refl

pub returns : goal.returns
returns g c = rw (some_part c.args.expressions.now c.args.index (omega arith)) (search rules)
