-- What a read does to the bytes that a source has left, which it may tell.
use Rattle.std.specs.Prelude.{◌≡◌, ◌≤◌, ◌↔◌, ℕ, List, [], length, take, drop, Option, Result, IfSome, MatchResult}
use Rattle.std.specs.Option.{option_map}

-- what is left once the first n bytes were handed out
abbrev pub rest_after : Option (List ℕ) → ℕ → Option (List ℕ)
rest_after left n = option_map (drop n) left

-- the first n bytes that were left stand in the buffer, and n is 0 exactly where none was left
pub record HandsOut (before after : Option (List ℕ)) (buffer : List ℕ) (n : ℕ) : Type 0 where
  pub bound : n ≤ length buffer
  pub given : IfSome before (λ left. take n buffer ≡ take n left)
  pub at_end : IfSome before (λ left. (n ≡ 0) ↔ (left ≡ []))
  pub rest : after ≡ rest_after before n

-- a read hands out n bytes at `Ok n`, and none at an error
abbrev pub Reads : {E : Type 0} → Option (List ℕ) → Option (List ℕ) → Result ℕ E → List ℕ → Type 0
Reads before after result buffer = MatchResult result (HandsOut before after buffer) (λ _. after ≡ before)
