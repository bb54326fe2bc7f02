-- Both of two truths.
use Rattle.std.proofs.Common.{◌≡◌, ◌&&◌, refl, Bool, true, false}

pub both_true : (a b : Bool) → a && b ≡ true → (a ≡ true) × (b ≡ true)
both_true true b h = (refl, h)
both_true false b h = absurd (cc)
