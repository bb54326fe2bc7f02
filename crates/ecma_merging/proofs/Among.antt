-- The equations of what is put behind a list, item by item.
use Rattle.std.proofs.Common.{◌≡◌, ◌∙◌, ◌≤◌, ℕ, ◌+◌, Bool, cond, List, [], ◌∷◌, ◌++◌, drop, take, length, Some, sym, ap, append_assoc, append-nil, slice_get}
use Rattle.std.specs.List.{flat_map}
use Rattle.std.proofs.lemmas.List.{drop_all}
use Rattle.ecma_tree.proofs.Items.{drop-item, take-item}
use Rattle.ecma_merging.specs.declared.finding.Finding.{Finding}
use Rattle.ecma_merging.specs.Merging.{found_among}

-- ---- what each item gives

module _ {X A : Type 0} where
  -- what is there, and then what the items from the one at i on give
  abbrev pub and_given : (X → List A) → List X → ℕ → List A → List A
  and_given f xs i now = now ++ flat_map f (drop i xs)

  pub given-next : (f : X → List A) (xs : List X) (i : ℕ) (x : X) (now more : List A) → slice_get xs i ≡ Some x → more ≡ now ++ f x → and_given f xs (i + 1) more ≡ and_given f xs i now
  given-next f xs i x now more at adds =
      ap (λ (z : List A). z ++ flat_map f (drop (i + 1) xs)) adds ∙ append_assoc now (f x) (flat_map f (drop (i + 1) xs))
      ∙ ap (λ (z : List X). now ++ flat_map f z) (sym (drop-item xs i x at))

  pub given-all : (f : X → List A) (xs : List X) (i : ℕ) (now : List A) → length xs ≤ i → and_given f xs i now ≡ now
  given-all f xs i now all = ap (λ (z : List X). now ++ flat_map f z) (drop_all i xs all) ∙ append-nil now

-- ---- what is found of those that pass a test

module _ {A : Type 0} (test : List A → A → Bool) (finding : A → Finding) where
  -- what is there, and then what is found from the item at i on
  abbrev pub and_found : List A → ℕ → List Finding → List Finding
  and_found xs i now = now ++ found_among test finding (take i xs) (drop i xs)

  pub found-next : (xs : List A) (i : ℕ) (x : A) (now more : List Finding) → slice_get xs i ≡ Some x → more ≡ now ++ cond (test (take i xs) x) (finding x ∷ []) []
      → and_found xs (i + 1) more ≡ and_found xs i now
  found-next xs i x now more at adds =
      ap (and_found xs (i + 1)) adds
      ∙ append_assoc now (cond (test (take i xs) x) (finding x ∷ []) []) (found_among test finding (take (i + 1) xs) (drop (i + 1) xs))
      ∙ ap (λ (z : List A). now ++ (cond (test (take i xs) x) (finding x ∷ []) [] ++ found_among test finding z (drop (i + 1) xs))) (take-item xs i x at)
      ∙ ap (λ (z : List A). now ++ found_among test finding (take i xs) z) (sym (drop-item xs i x at))

  pub found-all : (xs : List A) (i : ℕ) (now : List Finding) → length xs ≤ i → and_found xs i now ≡ now
  found-all xs i now all = ap (λ (z : List A). now ++ found_among test finding (take i xs) z) (drop_all i xs all) ∙ append-nil now

pub ruleset giving = (given-next, given-all)
