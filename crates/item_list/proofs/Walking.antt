-- A loop that changes the items of a list one by one, from the first on: what stands behind i turns.
use Rattle.std.proofs.Common.{◌≡◌, ℕ, zero, suc, ◌+◌, List, [], ◌∷◌, ◌++◌, map, take, drop, length, Some, refl, sym, ap, arith, slice_get, set, add-one}

module _ {X : Type 0} (f : X → X) where
  -- the list with f of its first i items
  abbrev pub front_mapped : List X → ℕ → List X
  front_mapped xs i = map f (take i xs) ++ drop i xs

  -- the item at i is still the old one
  pub front_mapped-at : (xs : List X) (i : ℕ) (x : X) → slice_get (front_mapped xs i) i ≡ Some x → slice_get xs i ≡ Some x
  front_mapped-at [] zero x at = at
  front_mapped-at [] (suc i) x at = at
  front_mapped-at (y ∷ ys) zero x at = at
  front_mapped-at (y ∷ ys) (suc i) x at = front_mapped-at ys i x at

  set-front_mapped-suc : (xs : List X) (i : ℕ) (x : X) → slice_get xs i ≡ Some x → set (front_mapped xs i) i (f x) ≡ front_mapped xs (suc i)
  set-front_mapped-suc [] i x at = cc
  set-front_mapped-suc (y ∷ ys) zero x at = let same : y ≡ x = cc in ap (λ z. f z ∷ ys) (sym same)
  set-front_mapped-suc (y ∷ ys) (suc i) x at = ap (λ zs. f y ∷ zs) (set-front_mapped-suc ys i x at)

  -- once f of it is written there, one item more is changed
  pub set-front_mapped : (xs : List X) (i : ℕ) (x : X) → slice_get xs i ≡ Some x → set (front_mapped xs i) i (f x) ≡ front_mapped xs (i + 1)
  set-front_mapped xs i x at = rw add-one (set-front_mapped-suc xs i x at)

  -- in the end all are
  pub front_mapped-all : (xs : List X) (i : ℕ) → length xs ≡ i → front_mapped xs i ≡ map f xs
  front_mapped-all [] zero all = refl
  front_mapped-all [] (suc i) all = refl
  front_mapped-all (y ∷ ys) zero all = cc
  front_mapped-all (y ∷ ys) (suc i) all = ap (λ zs. f y ∷ zs) (front_mapped-all ys i (omega (arith, all)))
