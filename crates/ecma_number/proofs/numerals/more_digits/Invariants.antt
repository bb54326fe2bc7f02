use Rattle.std.proofs.Common.{◌≡◌, ◌≤◌, ◌-◌, drop, length}
use Rattle.ecma_number.specs.DigitRun.{Holds, IsShort}
use Rattle.ecma_number.specs.Numeral.{Digits, more_digits}
use Rattle.ecma_number.proofs.numerals.more_digits.Given as goal

abbrev pub invariant-loop-end : goal.invariant-loop-end
invariant-loop-end l = record {
  within : l.end ≤ length l.text;
  short : IsShort (l.run, l.end);
  read : (exact : Digits) → Holds l.radix l.fn.before exact → (here : Digits) × Holds l.radix l.run here × (more_digits l.form l.radix exact (drop l.fn.at l.text) ≡ more_digits l.form l.radix here (drop l.end l.text));
}

abbrev pub decreases-loop-end : goal.decreases-loop-end
decreases-loop-end l = length l.text - l.end
