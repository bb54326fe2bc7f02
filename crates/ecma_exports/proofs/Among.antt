-- Texts that are among others.
use Rattle.std.proofs.Common.{◌≡◌, ◌∙◌, ℕ, zero, suc, ◌+◌, Bool, true, false, ◌||◌, cond, List, [], ◌∷◌, take, drop, length, Option, Some, None, refl, sym, ap, slice_get, bytes_eq, add-one, arith}
use Rattle.std.specs.List.{list_any}
use Rattle.std.proofs.lemmas.List.{take_all}
use Rattle.std.proofs.lemmas.List.Folds.{list_any-append}
use Rattle.ecma_tree.proofs.Items.{take-item}
use Rattle.ecma_exports.specs.Exports.{first_among, is_among}

last : (a b : Bool) → b || (a || false) ≡ cond a true b
last true true = refl
last true false = refl
last false true = refl
last false false = refl

-- what the first i say, with the one at i
pub among-next : (before after : List ℕ → Bool) (xs : List (List ℕ)) (i : ℕ) (x : List ℕ) → slice_get xs i ≡ Some x → ((q : List ℕ) → before q ≡ is_among (take i xs) q)
    → ((q : List ℕ) → after q ≡ cond (bytes_eq x q) true (before q)) → (q : List ℕ) → after q ≡ is_among (take (i + 1) xs) q
among-next before after xs i x at so_far adds q =
    adds q ∙ ap (cond (bytes_eq x q) true) (so_far q) ∙ sym (last (bytes_eq x q) (is_among (take i xs) q)) ∙ sym (list_any-append (λ y. bytes_eq y q) (take i xs) (x ∷ []))
    ∙ ap (λ (z : List (List ℕ)). is_among z q) (sym (take-item xs i x at))

pub among-all : (before : List ℕ → Bool) (xs : List (List ℕ)) (i : ℕ) → length xs ≡ i → ((q : List ℕ) → before q ≡ is_among (take i xs) q) → (q : List ℕ) → before q ≡ is_among xs q
among-all before xs i all so_far q = so_far q ∙ ap (λ (z : List (List ℕ)). is_among z q) (take_all i xs (omega (arith, all)))

-- ---- the first of some that is among others

module _ (others : List (List ℕ)) where
  -- the first i are not
  abbrev pub none_before : List (List ℕ) → ℕ → Type 0
  none_before xs i = first_among others (drop i xs) ≡ first_among others xs

  drop-get : (xs : List (List ℕ)) (i : ℕ) (x : List ℕ) → slice_get xs i ≡ Some x → drop i xs ≡ x ∷ drop (suc i) xs
  drop-get [] i x at = cc
  drop-get (y ∷ ys) zero x at = let same : y ≡ x = cc in ap (λ z. z ∷ ys) same
  drop-get (y ∷ ys) (suc i) x at = drop-get ys i x at

  first-here : (xs : List (List ℕ)) (i : ℕ) (x : List ℕ) → slice_get xs i ≡ Some x → none_before xs i → first_among others xs ≡ cond (is_among others x) (Some x) (first_among others (drop (suc i) xs))
  first-here xs i x at so_far = sym so_far ∙ ap (first_among others) (drop-get xs i x at)

  pub found : (xs : List (List ℕ)) (i : ℕ) (x : List ℕ) → slice_get xs i ≡ Some x → none_before xs i → is_among others x ≡ true → first_among others xs ≡ Some x
  found xs i x at so_far is = first-here xs i x at so_far ∙ ap (λ b. cond b (Some x) (first_among others (drop (suc i) xs))) is

  pub passed : (xs : List (List ℕ)) (i : ℕ) (x : List ℕ) → slice_get xs i ≡ Some x → none_before xs i → is_among others x ≡ false → none_before xs (i + 1)
  passed xs i x at so_far is =
      ap (λ k. first_among others (drop k xs)) (add-one i)
      ∙ sym (first-here xs i x at so_far ∙ ap (λ b. cond b (Some x) (first_among others (drop (suc i) xs))) is)

  drop-length : (xs : List (List ℕ)) (i : ℕ) → length xs ≡ i → drop i xs ≡ []
  drop-length [] zero h = refl
  drop-length [] (suc i) h = cc
  drop-length (x ∷ xs) zero h = cc
  drop-length (x ∷ xs) (suc i) h = let g : length xs ≡ i = omega (arith, h) in drop-length xs i g

  pub none-found : (xs : List (List ℕ)) (i : ℕ) → length xs ≡ i → none_before xs i → first_among others xs ≡ None
  none-found xs i all so_far = sym so_far ∙ ap (first_among others) (drop-length xs i all)
