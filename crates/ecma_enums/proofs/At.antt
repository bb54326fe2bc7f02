-- What is made of the child at an index.
use Rattle.std.proofs.Common.{◌≡◌, ℕ, zero, suc, List, [], ◌∷◌, map, get_or, Some, None, refl, ap, slice_get}
use Rattle.ecma_tree.specs.declared.node.Node.{Node}

module _ {X : Type 0} (f : Node → X) (d : X) where
  pub get_or-some : (ns : List Node) (i : ℕ) (x : Node) → slice_get ns i ≡ Some x → get_or (map f ns) i d ≡ f x
  get_or-some [] i x at = cc
  get_or-some (y ∷ ys) zero x at = let same : y ≡ x = cc in ap f same
  get_or-some (y ∷ ys) (suc i) x at = get_or-some ys i x at

  pub get_or-none : (ns : List Node) (i : ℕ) → slice_get ns i ≡ None → get_or (map f ns) i d ≡ d
  get_or-none [] i at = refl
  get_or-none (y ∷ ys) zero at = cc
  get_or-none (y ∷ ys) (suc i) at = get_or-none ys i at
