use Rattle.std.proofs.Common.{◌≡◌, ◌+◌, ◌*◌, ◌^◌, ◌≤◌, arith}
use Rattle.ecma_number.specs.Saturated.{saturated}
use Rattle.ecma_number.proofs.DigitRuns.{holds_zero, holds_digit}
use Rattle.ecma_number.proofs.numerals.DigitRun.with.Goals as goal

pub returns-then-digit-eq0-clause-value : goal.returns-then-digit-eq0-clause-value
returns-then-digit-eq0-clause-value c = λ exact holds. holds_zero c.args.radix c.args.self exact c.args.digit c.if-digit-eq0.true holds

pub returns-clause-value : goal.returns-clause-value
returns-clause-value c =
    let some : 1 ≤ c.args.digit = omega arith in
    let is : c.saturating_add.result ≡ saturated (saturated (c.args.self.size * c.args.radix ^ (c.args.self.zeros + 1)) + c.args.digit) = omega arith in
    λ exact holds. holds_digit c.args.radix c.args.self exact c.args.digit c.saturating_add.result c.requires.least some c.requires.small is holds
