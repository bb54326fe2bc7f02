-- Items of lists by their index.
use Rattle.std.proofs.Common.{◌≡◌, ◌∙◌, ℕ, zero, suc, Bool, true, false, cond, List, [], ◌∷◌, map, filter, length, replicate, Some, refl, sym, ap, subst, slice_get, arith}
use Rattle.ecma_kind.specs.declared.shapes.Shape.{Shape}
use Rattle.ecma_tree.specs.declared.node.Node.{Node}
use Rattle.ecma_tree.specs.Laws.{HaveShapes}
use Rattle.ecma_tree.specs.Sorted.{HasShape}

module _ {X : Type 0} where
  none_left : (f : X → Bool) (xs : List X) → length xs ≡ 0 → length (filter f xs) ≡ 0
  none_left f [] h = refl
  none_left f (x ∷ xs) h = absurd (omega (arith, h))

  -- an item of what is left of a list is one of the list, and the last if that was the last
  abbrev pub At : (X → Bool) → List X → ℕ → X → Type 0
  At f xs j x = (i : ℕ) × (slice_get xs i ≡ Some x) × (suc i ≡ length xs → suc j ≡ length (filter f xs))

  pub filter_at : (f : X → Bool) (xs : List X) (j : ℕ) (x : X) → slice_get (filter f xs) j ≡ Some x → At f xs j x
  filter_at f [] j x at = cc
  filter_at f (y ∷ ys) j x at = by (f y) refl (filter_at f ys) j at
    where
      first_last : (b : Bool) → b ≡ true → suc 0 ≡ length (y ∷ ys) → suc 0 ≡ length (cond b (y ∷ filter f ys) (filter f ys))
      first_last true e h = let n : length ys ≡ 0 = omega (arith, h) in let z = none_left f ys n in omega (arith, z)
      first_last false e h = cc

      by : (b : Bool) → f y ≡ b → ((j : ℕ) (x : X) → slice_get (filter f ys) j ≡ Some x → At f ys j x) → (j : ℕ) → slice_get (cond b (y ∷ filter f ys) (filter f ys)) j ≡ Some x
          → (i : ℕ) × (slice_get (y ∷ ys) i ≡ Some x) × (suc i ≡ length (y ∷ ys) → suc j ≡ length (cond b (y ∷ filter f ys) (filter f ys)))
      by true e rest zero at = (0, at, first_last true refl)
      by true e rest (suc j) at = let t = rest j x at in (suc t.0, t.1, λ h. ap suc (t.2 (omega (arith, h))))
      by false e rest j at = let t = rest j x at in (suc t.0, t.1, λ h. t.2 (omega (arith, h)))

  -- and it passes the test
  pub filter_passes : (f : X → Bool) (xs : List X) (j : ℕ) (x : X) → slice_get (filter f xs) j ≡ Some x → f x ≡ true
  filter_passes f [] j x at = cc
  filter_passes f (y ∷ ys) j x at = by (f y) refl (filter_passes f ys) j at
    where
      by : (b : Bool) → f y ≡ b → ((j : ℕ) (x : X) → slice_get (filter f ys) j ≡ Some x → f x ≡ true) → (j : ℕ) → slice_get (cond b (y ∷ filter f ys) (filter f ys)) j ≡ Some x → f x ≡ true
      by true e rest zero at = let same : y ≡ x = cc in ap f (sym same) ∙ e
      by true e rest (suc j) at = rest j x at
      by false e rest j at = rest j x at

  pub map_at : {Y : Type 0} (g : X → Y) (xs : List X) (i : ℕ) (y : Y) → slice_get (map g xs) i ≡ Some y → (x : X) × (slice_get xs i ≡ Some x) × (g x ≡ y)
  map_at g [] i y at = cc
  map_at g (x ∷ xs) zero y at = (x, refl, cc)
  map_at g (x ∷ xs) (suc i) y at = map_at g xs i y at

  pub at_map : {Y : Type 0} (g : X → Y) (xs : List X) (i : ℕ) (x : X) → slice_get xs i ≡ Some x → slice_get (map g xs) i ≡ Some (g x)
  at_map g [] i x at = cc
  at_map g (y ∷ ys) zero x at = let same : y ≡ x = cc in ap (λ z. Some (g z)) same
  at_map g (y ∷ ys) (suc i) x at = at_map g ys i x at

-- each node has its shape
pub have_at : (os : List Shape) (cs : List Node) → HaveShapes os cs → (i : ℕ) (c : Node) → slice_get cs i ≡ Some c → (o : Shape) × (slice_get os i ≡ Some o) × HasShape o c
have_at [] [] h i c at = cc
have_at [] (x ∷ xs) h i c at = absurd h
have_at (o ∷ os) [] h i c at = absurd h
have_at (o ∷ os) (x ∷ xs) h zero c at = let same : x ≡ c = cc in (o, refl, subst (HasShape o) same h.0)
have_at (o ∷ os) (x ∷ xs) h (suc i) c at = have_at os xs h.1 i c at

-- so has each item of a list
pub items_at : (o : Shape) (cs : List Node) → HaveShapes (replicate (length cs) o) cs → (i : ℕ) (c : Node) → slice_get cs i ≡ Some c → HasShape o c
items_at o [] h i c at = cc
items_at o (x ∷ xs) h zero c at = let same : x ≡ c = cc in subst (HasShape o) same h.0
items_at o (x ∷ xs) h (suc i) c at = items_at o xs h.1 i c at
