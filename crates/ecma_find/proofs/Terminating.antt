-- The equations of what ends what runs.
use Rattle.std.proofs.Common.{◌≡◌, ℕ, zero, suc, Bool, false, List, [], ◌∷◌, map, get_or, Some, None, refl, ap, slice_get}
use Rattle.ecma_tree.specs.declared.node.Node.{Node, fold_out-Node, out-Node}
use Rattle.ecma_find.specs.Statements.{terminates, terminates_at, terminates_by, terminates_step}

module _ {X : Type 0} (f : X → Bool) where
  get_or-some : (xs : List X) (i : ℕ) (x : X) → slice_get xs i ≡ Some x → get_or (map f xs) i false ≡ f x
  get_or-some [] i x at = cc
  get_or-some (y ∷ ys) zero x at = let same : y ≡ x = cc in ap f same
  get_or-some (y ∷ ys) (suc i) x at = get_or-some ys i x at

  get_or-none : (xs : List X) (i : ℕ) → slice_get xs i ≡ None → get_or (map f xs) i false ≡ false
  get_or-none [] i at = refl
  get_or-none (y ∷ ys) zero at = cc
  get_or-none (y ∷ ys) (suc i) at = get_or-none ys i at

pub terminates_at-some : (n : Node) (i : ℕ) (x : Node) → slice_get (out-Node n).children i ≡ Some x → terminates_at i n ≡ terminates x
terminates_at-some n = get_or-some terminates (out-Node n).children

pub terminates_at-none : (n : Node) (i : ℕ) → slice_get (out-Node n).children i ≡ None → terminates_at i n ≡ false
terminates_at-none n = get_or-none terminates (out-Node n).children

pub terminates-out : (n : Node) → terminates n ≡ terminates_by (out-Node n).kind (map terminates (out-Node n).children)
terminates-out = fold_out-Node Bool terminates_step

pub ruleset terminating = (terminates_at-some, terminates_at-none, terminates-out)
