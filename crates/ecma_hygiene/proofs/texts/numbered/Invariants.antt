use Rattle.std.proofs.Common.{◌≡◌, ◌++◌, ◌≤◌, ◌<◌, ℕ, true}
use Rattle.std.specs.Fmt.{decimal}
use Rattle.ecma_hygiene.specs.Sets.{has_text}
use Rattle.ecma_hygiene.proofs.texts.numbered.Given as goal

-- the numbers below give texts that are had
abbrev pub invariant-loop-number : goal.invariant-loop-number
invariant-loop-number l = record {
  positive : 1 ≤ l.number;
  least : (k : ℕ) → 1 ≤ k → k < l.number → has_text l.had (l.text ++ decimal k) ≡ true;
}
