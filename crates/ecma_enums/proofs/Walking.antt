-- The equations of a walk over a tree.
use Rattle.std.proofs.Common.{◌≡◌, ◌∙◌, ◌≤◌, ℕ, ◌+◌, List, drop, length, map, Bool, Some, sym, ap, slice_get}
use Rattle.std.proofs.lemmas.List.{drop_all}
use Rattle.ecma_tree.proofs.Items.{drop-item}
use Rattle.ecma_tree.proofs.Layers.{from_leaves_out}
use Rattle.ecma_tree.specs.declared.node.Node.{Node, out-Node}
use Rattle.ecma_enums.specs.declared.walk.Stand.{Stand}
use Rattle.ecma_enums.specs.Walks.{Walk, in_order, walk_by, walked, walks_of}

walked-all : (n : Node) → walked n ≡ walk_by (out-Node n).kind n (walks_of n)
unfolding walked
walked-all n = from_leaves_out Walk (λ m walks. walk_by (out-Node m).kind m walks) n

pub walked-out : (n : Node) (ambient : Bool) (s : Stand) → walked n ambient s ≡ walk_by (out-Node n).kind n (walks_of n) ambient s
walked-out n ambient s = ap (λ (w : Walk). w ambient s) (walked-all n)

-- from the child at i on
abbrev pub rest_walked : List Node → ℕ → Walk
rest_walked ns i = in_order (map walked (drop i ns))

pub walked-next : (ns : List Node) (ambient : Bool) (s t : Stand) (i : ℕ) (n : Node) → slice_get ns i ≡ Some n → t ≡ walked n ambient s
    → rest_walked ns i ambient s ≡ rest_walked ns (i + 1) ambient t
walked-next ns ambient s t i n at is =
    ap (λ (ms : List Node). in_order (map walked ms) ambient s) (drop-item ns i n at) ∙ ap (rest_walked ns (i + 1) ambient) (sym is)

pub walked-end : (ns : List Node) (ambient : Bool) (s : Stand) (i : ℕ) → length ns ≤ i → rest_walked ns i ambient s ≡ s
walked-end ns ambient s i all = ap (λ (ms : List Node). in_order (map walked ms) ambient s) (drop_all i ns all)

pub ruleset walking = (walked-out, walked-next, walked-end)
