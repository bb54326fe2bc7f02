-- Whether bytes are UTF-8, as a test.
use Rattle.std.proofs.Common.{◌≡◌, ℕ, List, Bool, true, false, refl}
use Rattle.std.specs.Str.{IsUtf8, is_utf8}
use Rattle.std.proofs.lemmas.Str.{IsUtf8-from_is_utf8, is_utf8-from_IsUtf8}

false-from_not : (b : Bool) → ¬ (b ≡ true) → b ≡ false
false-from_not true refuted = absurd (refuted refl)
false-from_not false refuted = refl

pub is_utf8-from_not : (bs : List ℕ) → ¬ (IsUtf8 bs) → is_utf8 bs ≡ false
is_utf8-from_not bs refuted = false-from_not (is_utf8 bs) (λ valid. refuted (IsUtf8-from_is_utf8 bs valid))

pub ruleset tests = (is_utf8-from_not, is_utf8-from_IsUtf8)
