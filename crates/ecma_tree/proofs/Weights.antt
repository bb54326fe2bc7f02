-- How many nodes a tree has, by which a walk over it ends.
use Rattle.std.proofs.Common.{◌≡◌, ℕ, zero, suc, ◌+◌, ◌<◌, ◌≤◌, List, [], ◌∷◌, map, Some, slice_get, ap, arith}
use Rattle.ecma_tree.specs.declared.node.Node.{Node, Node-F, fold-Node, fold_out-Node, out-Node}

abbrev total : List ℕ → ℕ
total [] = 0
total (n ∷ ns) = n + total ns

abbrev weight_step : Node-F ℕ → ℕ
weight_step parts = 1 + total parts.children

pub weight : Node → ℕ
weight = fold-Node ℕ weight_step

weight-out : (n : Node) → weight n ≡ 1 + total (map weight (out-Node n).children)
unfolding weight
weight-out = fold_out-Node ℕ weight_step

weight-item : (nodes : List Node) (i : ℕ) (x : Node) → slice_get nodes i ≡ Some x → weight x ≤ total (map weight nodes)
weight-item [] i x at = cc
weight-item (y ∷ ys) zero x at =
    let same : y ≡ x = cc in
    let equal = ap weight same in
    omega arith
weight-item (y ∷ ys) (suc i) x at =
    let below = weight-item ys i x at in
    omega arith

-- a child has fewer
pub weight-child : (n x : Node) (i : ℕ) → slice_get (out-Node n).children i ≡ Some x → weight x < weight n
weight-child n x i at =
    let below = weight-item (out-Node n).children i x at in
    let all = weight-out n in
    omega arith
