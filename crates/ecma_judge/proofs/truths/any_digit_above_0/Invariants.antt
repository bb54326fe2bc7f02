use Rattle.std.proofs.Common.{◌≡◌, drop}
use Rattle.ecma_judge.specs.Truths.{any_digit_above_0}
use Rattle.ecma_judge.proofs.truths.any_digit_above_0.Given as goal

-- the digits that are left decide
abbrev pub invariant-loop-digit : goal.invariant-loop-digit
invariant-loop-digit l = any_digit_above_0 (drop l.digit-index l.digits) ≡ any_digit_above_0 l.digits
