-- The equations of what is simple.
use Rattle.std.proofs.Common.{◌≡◌, ℕ, zero, suc, Bool, false, List, [], ◌∷◌, map, get_or, Some, None, refl, ap, slice_get}
use Rattle.ecma_tree.proofs.Layers.{from_leaves_out}
use Rattle.ecma_tree.specs.declared.node.Node.{Node, out-Node}
use Rattle.ecma_judge.specs.Simple.{is_simple, is_simple_by, is_simple_here}

pub simple-some : (getters : Bool) (ns : List Node) (i : ℕ) (x : Node) → slice_get ns i ≡ Some x → get_or (map (is_simple getters) ns) i false ≡ is_simple getters x
simple-some getters [] i x at = cc
simple-some getters (y ∷ ys) zero x at = let same : y ≡ x = cc in ap (is_simple getters) same
simple-some getters (y ∷ ys) (suc i) x at = simple-some getters ys i x at

pub simple-none : (getters : Bool) (ns : List Node) (i : ℕ) → slice_get ns i ≡ None → get_or (map (is_simple getters) ns) i false ≡ false
simple-none getters [] i at = refl
simple-none getters (y ∷ ys) zero at = cc
simple-none getters (y ∷ ys) (suc i) at = simple-none getters ys i at

pub simple-out : (getters : Bool) (n : Node) → is_simple getters n ≡ is_simple_by getters (out-Node n).kind n (map (is_simple getters) (out-Node n).children)
unfolding is_simple
simple-out getters n = from_leaves_out Bool (is_simple_here getters) n

pub ruleset simple = (simple-some, simple-none, simple-out)
