-- Of two truth values, each.
use Rattle.std.proofs.Common.{◌≡◌, refl, ◌⊎◌, inl, inr, Bool, true, false, not, ◌&&◌, ◌||◌}

pub both_true : (a b : Bool) → a && b ≡ true → (a ≡ true) × (b ≡ true)
both_true true b h = (refl, h)
both_true false b h = cc

pub neither_true : (a b : Bool) → a || b ≡ false → (a ≡ false) × (b ≡ false)
neither_true true b h = cc
neither_true false b h = (refl, h)

pub two_true : (a b : Bool) → a ≡ true → b ≡ true → (a && b) ≡ true
two_true true b p q = q
two_true false b p q = absurd (cc)

pub not_true : (b : Bool) → not b ≡ true → b ≡ false
not_true true h = absurd (cc)
not_true false h = refl

pub certain : (b : Bool) → not b ≡ false → b ≡ true
certain true h = refl
certain false h = absurd (cc)

-- what has no effects is a pure callee, or reads plainly what has none
pub pure_or_plain : (pure plain effects : Bool) → (not pure && (not plain || effects)) ≡ false → (pure ≡ true) ⊎ ((plain ≡ true) × (effects ≡ false))
pure_or_plain true plain effects h = inl refl
pure_or_plain false true effects h = inr (refl, h)
pure_or_plain false false effects h = absurd (cc)
