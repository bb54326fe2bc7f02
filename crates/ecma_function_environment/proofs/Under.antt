-- The equation of the member of `super` that a node is.
use Rattle.std.proofs.Common.{◌≡◌, List, [], ◌∷◌, map, get_or, Option, Some, None, refl, ap, slice_get}
use Rattle.ecma_tree.proofs.Layers.{from_leaves_out}
use Rattle.ecma_tree.specs.declared.node.Node.{Node, out-Node}
use Rattle.ecma_function_environment.specs.Members.{super_under, under_by}

pub under-first : (xs : List Node) (x : Node) → slice_get xs 0 ≡ Some x → get_or (map super_under xs) 0 None ≡ super_under x
under-first [] x at = cc
under-first (y ∷ ys) x at = let same : y ≡ x = cc in ap super_under same

pub under-none : (xs : List Node) → slice_get xs 0 ≡ None → get_or (map super_under xs) 0 None ≡ None
under-none [] at = refl
under-none (y ∷ ys) at = cc

pub under-out : (n : Node) → super_under n ≡ under_by (out-Node n).kind n (map super_under (out-Node n).children)
under-out = from_leaves_out (Option Node) (λ n found. under_by (out-Node n).kind n found)

pub ruleset under = (under-first, under-none, under-out)
