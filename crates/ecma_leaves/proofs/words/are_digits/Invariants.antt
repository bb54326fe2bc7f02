use Rattle.std.proofs.Common.{◌≡◌, drop, filter, bytes_eq}
use Rattle.ecma_leaves.specs.Words.{is_no_separator}
use Rattle.ecma_leaves.proofs.words.are_digits.Given as goal

-- what is left of both decides
abbrev pub invariant-loop-digit : goal.invariant-loop-digit
invariant-loop-digit l = bytes_eq l.rest (filter is_no_separator (drop l.digit-index l.digits)) ≡ bytes_eq l.value (filter is_no_separator l.digits)
