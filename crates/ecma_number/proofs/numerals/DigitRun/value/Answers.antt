use Rattle.std.proofs.Common.{◌∙◌}
use Rattle.ecma_number.proofs.DigitRuns.{held_value}
use Rattle.ecma_number.proofs.numerals.DigitRun.value.Goals as goal

pub returns : goal.returns
returns c = λ exact holds. c.with_zeros.ensures ∙ held_value c.args.radix c.args.self exact c.requires.least holds
