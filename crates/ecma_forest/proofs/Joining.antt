-- Summaries that are joined: an empty one changes nothing, and their order does not matter. And bytes that hold them.
use Rattle.std.proofs.Common.{◌≡◌, ◌∙◌, ◌||◌, ℕ, zero, suc, max, Bool, true, false, List, [], ◌∷◌, drop, Some, slice_get, eqb, refl, ap, add-one, arith, ◌<◌, ◌+◌}
use Rattle.std.specs.Int.{bit_at}
use Rattle.std.specs.Int.RustNames.{bit_or}
use Rattle.std.proofs.lemmas.Nat.Bits.{bit_at-lt, bit_at_or}
use Rattle.ecma_forest.specs.Sets.{sets_of}
use Rattle.ecma_forest.specs.Summaries.{join_summaries, empty_summary}
use Rattle.ecma_forest.specs.Slots.{slots_summary}
use Rattle.ecma_forest.specs.declared.forest.Slot.{Slot}
use Rattle.ecma_forest.specs.declared.summary.Summary.{Summary}

or-false : (a : Bool) → (a || false) ≡ a
or-false true = refl
or-false false = refl

or-assoc : (a b c : Bool) → ((a || b) || c) ≡ (a || (b || c))
or-assoc true b c = refl
or-assoc false b c = refl

pub join-none : (m : Summary) → join_summaries m empty_summary ≡ m
join-none m = λ i. record {
  types = or-false m.types i;
  enums = or-false m.enums i;
  namespaces = or-false m.namespaces i;
  param_props = or-false m.param_props i;
  patterns = or-false m.patterns i;
  scopes = or-false m.scopes i;
  functions = or-false m.functions i;
  names = or-false m.names i;
}

join-assoc : (a b c : Summary) → join_summaries (join_summaries a b) c ≡ join_summaries a (join_summaries b c)
join-assoc a b c = λ i. record {
  types = or-assoc a.types b.types c.types i;
  enums = or-assoc a.enums b.enums c.enums i;
  namespaces = or-assoc a.namespaces b.namespaces c.namespaces i;
  param_props = or-assoc a.param_props b.param_props c.param_props i;
  patterns = or-assoc a.patterns b.patterns c.patterns i;
  scopes = or-assoc a.scopes b.scopes c.scopes i;
  functions = or-assoc a.functions b.functions c.functions i;
  names = or-assoc a.names b.names c.names i;
}

slots_summary-next : (own : Summary) (slots : List Slot) (i : ℕ) (s : Slot) → slice_get slots i ≡ Some s → join_summaries
    (join_summaries own s.summary) (slots_summary (drop (suc i) slots)) ≡ join_summaries own (slots_summary (drop i slots))
slots_summary-next own [] i s at = cc
slots_summary-next own (x ∷ xs) zero s at = let same : s ≡ x = cc in ap (λ y. join_summaries (join_summaries own y.summary) (slots_summary xs)) same ∙ join-assoc own x.summary (slots_summary xs)
slots_summary-next own (x ∷ xs) (suc i) s at = slots_summary-next own xs i s at

pub slots_summary-item : (own : Summary) (slots : List Slot) (i : ℕ) (s : Slot) → slice_get slots i ≡ Some s → join_summaries
    (join_summaries own s.summary) (slots_summary (drop (i + 1) slots)) ≡ join_summaries own (slots_summary (drop i slots))
slots_summary-item own slots i s at = rw add-one (slots_summary-next own slots i s at)

larger-is : (a b : ℕ) → a < 2 → b < 2 → eqb (max a b) 1 ≡ (eqb a 1 || eqb b 1)
larger-is zero zero h g = refl
larger-is zero (suc zero) h g = refl
larger-is (suc zero) zero h g = refl
larger-is (suc zero) (suc zero) h g = refl
larger-is (suc (suc a)) b h g = absurd (omega (arith, h))
larger-is a (suc (suc b)) h g = absurd (omega (arith, g))

either-bit : (a b i : ℕ) → eqb (bit_at (bit_or a b) i) 1 ≡ (eqb (bit_at a i) 1 || eqb (bit_at b i) 1)
either-bit a b i = ap (λ n. eqb n 1) (bit_at_or a b i) ∙ larger-is (bit_at a i) (bit_at b i) (bit_at-lt a i) (bit_at-lt b i)

-- the sets of two bytes together
pub sets_of-or : (a b : ℕ) → sets_of (bit_or a b) ≡ join_summaries (sets_of a) (sets_of b)
sets_of-or a b = λ i. record {
  types = either-bit a b 0 i;
  enums = either-bit a b 1 i;
  namespaces = either-bit a b 2 i;
  param_props = either-bit a b 3 i;
  patterns = either-bit a b 4 i;
  scopes = either-bit a b 5 i;
  functions = either-bit a b 6 i;
  names = either-bit a b 7 i;
}
