-- How the counts of a device go up. A count that stands at its last value, that of a `u64`, stays there.
use Rattle.std.specs.Prelude.{◌≡◌, ◌≤◌, ◌+◌, ◌-◌, ◌^◌, ℕ, min}

-- a count after one more
abbrev pub next_count : ℕ → ℕ
next_count count = min (count + 1) (2 ^ 64 - 1)

-- the count rose at least once, or stands at its last value
abbrev pub Rose : ℕ → ℕ → Type 0
Rose before now = next_count before ≤ now

-- exactly one more was counted
pub record Counted (before now : ℕ) : Type 0 where
  pub later : before ≤ now
  pub one_more : now ≡ next_count before

-- exactly one more was counted where a claim holds, and none where it does not
pub record CountedExactlyIf (Claim : Type 0) (before now : ℕ) : Type 0 where
  pub counted : Claim → Counted before now
  pub still : ¬ Claim → now ≡ before

-- at most so many more were counted
pub record CountedAtMost (before now most : ℕ) : Type 0 where
  pub later : before ≤ now
  pub at_most : now ≤ before + most
