-- What calls one behind the other leave of a session.
use Rattle.std.proofs.Common.{◌≡◌, ◌∙◌, ◌≤◌, ◌<◌, ◌+◌, ◌-◌, ℕ, refl, arith}
use Rattle.ecma_kind.specs.Sessions.{SessionState, drawn}
use Rattle.ecma_scope.specs.Drawing.{HasGivenAtMost}

pub given-none : (n : ℕ) (s : SessionState) → HasGivenAtMost n s s
given-none n s = record { fewer = omega arith; most = omega arith; total = refl; slots = refl }

pub given-one : (s : SessionState) → HasGivenAtMost 1 s (drawn s)
given-one s = record { fewer = omega arith; most = omega arith; total = refl; slots = refl }

pub given-more : (a b n : ℕ) (s t u : SessionState) → HasGivenAtMost a s t → HasGivenAtMost b t u → a + b ≤ n → HasGivenAtMost n s u
given-more a b n s t u first second most = record {
  fewer = omega (arith, first.fewer, second.fewer);
  most = omega (arith, first.most, second.most, most);
  total = second.total ∙ first.total;
  slots = second.slots ∙ first.slots;
}

pub ruleset giving = (given-none, given-one)

-- of so many draws in all so many are left to do, in a session that was `start`
pub record Counting (all left : ℕ) (start now : SessionState) : Type 0 where
  pub count : now.left + all ≡ start.left + left
  pub fewer : now.left ≤ start.left
  pub total : now.total ≡ start.total
  pub slots : now.slots ≡ start.slots

module _ (all left : ℕ) (start now : SessionState) (so : Counting all left start now) where
  -- a part of what is left is done
  pub counting-next : (part rest : ℕ) (after : SessionState) → left ≡ part + rest → after.left + part ≡ now.left → HasGivenAtMost part now after → Counting all rest start after
  counting-next part rest after parts drew given = record {
    count = omega (arith, so.count, parts, drew);
    fewer = omega (arith, so.fewer, given.fewer);
    total = given.total ∙ so.total;
    slots = given.slots ∙ so.slots;
  }

  pub counting-given : HasGivenAtMost all start now
  counting-given = record { fewer = so.fewer; most = omega (arith, so.count); total = so.total; slots = so.slots }

  -- also where a part is half done
  pub counting-stops : (part : ℕ) (after : SessionState) → part ≤ left → HasGivenAtMost part now after → HasGivenAtMost all start after
  counting-stops part after within given = record {
    fewer = omega (arith, so.fewer, given.fewer);
    most = omega (arith, so.count, given.most, within);
    total = given.total ∙ so.total;
    slots = given.slots ∙ so.slots;
  }

  -- a part needs more than there is
  pub counting-spent : (part : ℕ) → part ≤ left → now.left < part → start.left < all
  counting-spent part within lacks = omega (arith, so.count, within, lacks)

  pub counting-left : left ≡ 0 → now.left + all ≡ start.left
  counting-left none = omega (arith, so.count, none)

pub counting-start : (all : ℕ) (start : SessionState) → Counting all all start start
counting-start all start = record { count = refl; fewer = omega arith; total = refl; slots = refl }
