-- What a look-up of a text finds, and what a text that is appended leaves.
use Rattle.std.proofs.Common.{◌≡◌, ◌⊎◌, ◌∙◌, ◌<◌, ◌||◌, ℕ, zero, suc, Bool, true, false, cond, List, [], ◌∷◌, ◌++◌, map, length, get_or, Some, None, slice_get, position, nat_lt, inl, inr, refl, sym, ap, subst, arith, true≢false, if◌then◌else◌, Contains}
use Rattle.std.specs.List.{list_any, position_or_len}
use Rattle.std.specs.Str.{bytes_eq}
use Rattle.std.specs.Option.{option_map}
use Rattle.std.proofs.lemmas.List.{map-append}
use Rattle.std.proofs.lemmas.List.Sums.{passes_at_first}
use Rattle.std.proofs.lemmas.Option.{slice_get-map, slice_get-get_or, slice_get_within, get_or_from_slice_get}
use Rattle.std.proofs.lemmas.Slice.Eq.{bytes_eq-Decides}
use Rattle.indexmap.specs.IndexSet.{insert_key}
use Rattle.symbol_table.specs.Texts.{AreDistinct}

passes : {K : Type 0} (p : K → Bool) (ks : List K) (i : ℕ) (d : K) → position p ks ≡ Some i → (i < length ks) × (p (get_or ks i d) ≡ true)
passes p ks i d at = by (nat_lt (position_or_len p ks) (length ks)) refl at
  where
    by : (b : Bool) → nat_lt (position_or_len p ks) (length ks) ≡ b → cond b (Some (position_or_len p ks)) None ≡ Some i → (i < length ks) × (p (get_or ks i d) ≡ true)
    by true lt is =
        let within : position_or_len p ks < length ks = grind arith in
        let same : position_or_len p ks ≡ i = cc in
        subst (λ j. (j < length ks) × (p (get_or ks j d) ≡ true)) same (within, passes_at_first p ks d within)
    by false lt is = cc

contains-at : {X : Type 0} (xs : List X) (i : ℕ) (x : X) → slice_get xs i ≡ Some x → Contains xs x
contains-at xs i x at = (i, slice_get_within xs i x at, get_or_from_slice_get xs i x x at)

module _ {K : Type 0} (text_of : K → List ℕ) (text : List ℕ) where
  abbrev is : K → Bool
  is k = bytes_eq text (text_of k)

  -- what is found is there
  pub found-there : (ks : List K) (i : ℕ) → position is ks ≡ Some i → slice_get (map text_of ks) i ≡ Some text
  found-there [] i at = cc
  found-there (k ∷ ks) i at =
      let here = passes is (k ∷ ks) i k at in
      let same : text ≡ text_of (get_or (k ∷ ks) i k) = (bytes_eq-Decides text (text_of (get_or (k ∷ ks) i k))).0 here.1 in
      slice_get-map text_of (k ∷ ks) i ∙ ap (option_map text_of) (slice_get-get_or (k ∷ ks) i k here.0) ∙ ap Some (sym same)

  pub found-contained : (ks : List K) (texts : List (List ℕ)) (i : ℕ) → map text_of ks ≡ texts → position is ks ≡ Some i → Contains texts text
  found-contained ks texts i seen at = contains-at texts i text (ap (λ ts. slice_get ts i) (sym seen) ∙ found-there ks i at)

  -- what is there is found
  pub there-found : (ks : List K) (i : ℕ) → slice_get (map text_of ks) i ≡ Some text → list_any is ks ≡ true
  there-found [] i at = cc
  there-found (k ∷ ks) zero at =
      let same : text ≡ text_of k = cc in
      ap (λ b. b || list_any is ks) ((bytes_eq-Decides text (text_of k)).1 same)
  there-found (k ∷ ks) (suc i) at = ap (λ b. is k || b) (there-found ks i at) ∙ or_true (is k)
    where
      or_true : (b : Bool) → (b || true) ≡ true
      or_true true = refl
      or_true false = refl

  module _ (ks : List K) (none : list_any is ks ≡ false) where
    -- so what is not found is not there
    pub not-there : (texts : List (List ℕ)) → map text_of ks ≡ texts → (i : ℕ) → slice_get texts i ≡ Some text → ⊥
    not-there texts seen i at = true≢false (sym (there-found ks i (ap (λ ts. slice_get ts i) seen ∙ at)) ∙ none)

    -- and a key of the text comes last
    module _ (k : K) (of_text : text_of k ≡ text) where
      pub inserted : insert_key (λ x y. bytes_eq (text_of x) (text_of y)) ks k ≡ ks ++ k ∷ []
      inserted = ap (λ b. if b then ks else ks ++ k ∷ []) (ap (λ t. list_any (λ y. bytes_eq t (text_of y)) ks) of_text ∙ none)

      pub texts-pushed : map text_of (ks ++ k ∷ []) ≡ map text_of ks ++ text ∷ []
      texts-pushed = map-append text_of ks (k ∷ []) ∙ ap (λ t. map text_of ks ++ t ∷ []) of_text

push-cases : {X : Type 0} (xs : List X) (y : X) (i : ℕ) (x : X) → slice_get (xs ++ y ∷ []) i ≡ Some x → (slice_get xs i ≡ Some x) ⊎ ((i ≡ length xs) × (y ≡ x))
push-cases [] y zero x at = inr (refl, cc)
push-cases [] y (suc i) x at = cc
push-cases (z ∷ xs) y zero x at = inl at
push-cases (z ∷ xs) y (suc i) x at = elim (push-cases xs y i x at) [ inl a ↦ inl a | inr b ↦ inr (omega (arith, b.0), b.1) ]

-- a text that is not there may come behind the others
pub distinct-push : (texts : List (List ℕ)) (text : List ℕ) → AreDistinct texts → ((i : ℕ) → slice_get texts i ≡ Some text → ⊥) → AreDistinct (texts ++ text ∷ [])
distinct-push texts text distinct new i j t at_i at_j =
    elim (push-cases texts text i t at_i) [
      | inl a ↦ elim (push-cases texts text j t at_j) [
        | inl b ↦ distinct i j t a b
        | inr b ↦ absurd (new i (a ∙ ap Some (sym b.1)))
      ]
      | inr a ↦ elim (push-cases texts text j t at_j) [
        | inl b ↦ absurd (new j (b ∙ ap Some (sym a.1)))
        | inr b ↦ a.0 ∙ sym b.0
      ]
    ]
