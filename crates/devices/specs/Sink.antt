-- What a write does to the bytes that a sink has taken, which it may tell.
use Rattle.std.specs.Prelude.{◌≡◌, ◌≤◌, ◌<◌, ℕ, List, length, take, Option, Result, MatchResult}
use Rattle.std.specs.Io.KnownBytes.{append_known}

-- the first n bytes of the piece were taken, at least one unless the piece is empty
pub record TakesFirst (before after : Option (List ℕ)) (piece : List ℕ) (n : ℕ) : Type 0 where
  pub bound : n ≤ length piece
  pub some : 0 < length piece → 0 < n
  pub taken : after ≡ append_known before (take n piece)

-- a write takes n bytes at `Ok n`, and none at an error
abbrev pub Takes : {E : Type 0} → Option (List ℕ) → Option (List ℕ) → Result ℕ E → List ℕ → Type 0
Takes before after result piece = MatchResult result (TakesFirst before after piece) (λ _. after ≡ before)

-- some of the bytes from the front were taken, and not all
abbrev pub TakesPart : Option (List ℕ) → Option (List ℕ) → List ℕ → Type 0
TakesPart before after bytes = (n : ℕ) × (n < length bytes) × (after ≡ append_known before (take n bytes))
