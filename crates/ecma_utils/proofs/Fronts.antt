-- How many items of a list stand in front, one after the other.
use Rattle.std.proofs.Common.{◌≡◌, ◌∙◌, ℕ, ◌+◌, Bool, true, false, List, ◌∷◌, drop, length, Some, refl, ap, slice_get, arith}
use Rattle.std.proofs.lemmas.List.{at_drop_all}
use Rattle.ecma_tree.proofs.Items.{drop-item}
use Rattle.ecma_utils.specs.Directives.{front_length}

module _ {X : Type 0} (f : X → Bool) where
  head-passes : (x : X) (xs : List X) → f x ≡ true → front_length f (x ∷ xs) ≡ 1 + front_length f xs
  head-passes x xs h = rw h refl

  head-stops : (x : X) (xs : List X) → f x ≡ false → front_length f (x ∷ xs) ≡ 0
  head-stops x xs h = rw h refl

  -- one item more stands in front
  pub front-next : (xs : List X) (i : ℕ) (x : X) (n : ℕ) → slice_get xs i ≡ Some x → f x ≡ true → n ≡ i + front_length f (drop i xs) → n ≡ (i + 1) + front_length f (drop (i + 1) xs)
  front-next xs i x n at passes so =
      let here : front_length f (drop i xs) ≡ 1 + front_length f (drop (i + 1) xs) = ap (front_length f) (drop-item xs i x at) ∙ head-passes x (drop (i + 1) xs) passes in
      omega (arith, so, here)

  -- the first that does not
  pub front-stops : (xs : List X) (i : ℕ) (x : X) (n : ℕ) → slice_get xs i ≡ Some x → f x ≡ false → n ≡ i + front_length f (drop i xs) → n ≡ i
  front-stops xs i x n at stops so =
      let here : front_length f (drop i xs) ≡ 0 = ap (front_length f) (drop-item xs i x at) ∙ head-stops x (drop (i + 1) xs) stops in
      omega (arith, so, here)

  -- all do
  pub front-all : (xs : List X) (i n : ℕ) → length xs ≡ i → n ≡ i + front_length f (drop i xs) → n ≡ i
  front-all xs i n all so =
      let none : front_length f (drop i xs) ≡ 0 = at_drop_all (front_length f) xs i (omega (arith, all)) in
      omega (arith, so, none)

pub ruleset fronts = (front-next, front-stops, front-all)
