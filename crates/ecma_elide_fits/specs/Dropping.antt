-- A tree from whose lists items are dropped: items of modules and of namespaces, and specifiers of imports and of exports.
use Rattle.std.specs.Prelude.{ℕ, suc, Bool, false, not, ◌&&◌, ◌==◌, List, [], ◌∷◌, cond}
use Rattle.ecma_kind.specs.declared.kind.Kind.{Kind}
use Rattle.ecma_kind.specs.declared.kind.Kind.TheVariants as kind
use Rattle.ecma_tree.specs.Layers.{from_leaves}
use Rattle.ecma_tree.specs.Nodes.{node_of}
use Rattle.ecma_tree.specs.Sorted.{is_list}
use Rattle.ecma_tree.specs.declared.node.Node.{Node, out-Node}

-- the child at an index is a list from which items may be dropped
abbrev pub may_lose : Kind → ℕ → Bool
may_lose (kind.Module shebang) i = i == 0
may_lose kind.TsModuleBlock i = i == 0
may_lose (kind.ImportDecl type_only) i = i == 0
may_lose (kind.NamedExport type_only) i = i == 0
may_lose _ i = false

-- what is dropped from such lists, whatever it is: where nodes stand is handed down, to the children of a node by `seat`, which is given the node's kind, its
-- children and an index; the items of a list stand where it does. An item goes where `drops` says so
pub record Dropping (S : Type 0) : Type 0 where
  pub seat : S → Kind → List Node → ℕ → S
  pub drops : S → Node → Bool

-- what is left of a node, by whether it is a list that may lose items and by where it stands
abbrev pub Left : Type 0 → Type 0
Left S = Bool → S → Node

-- of what belongs to some nodes, one each, that of the nodes that stay
abbrev pub staying : {A : Type 0} → (Node → Bool) → List Node → List A → List A
staying stays (n ∷ ns) (a ∷ others) = cond (stays n) (a ∷ staying stays ns others) (staying stays ns others)
staying stays _ _ = []

-- each in its place, the first in that at 0
abbrev pub left_in : {S : Type 0} → (ℕ → Bool) → (ℕ → S) → List (Left S) → List Node
left_in losing seats [] = []
left_in losing seats (child ∷ children) = child (losing 0) (seats 0) ∷ left_in (λ i. losing (suc i)) (λ i. seats (suc i)) children

abbrev pub loses_in : Bool → Kind → ℕ → Bool
loses_in loses k i = cond (is_list k) loses (may_lose k i)

abbrev pub seats_in : {S : Type 0} → Dropping S → S → Kind → List Node → ℕ → S
seats_in d s k children i = cond (is_list k) s (d.seat s k children i)

abbrev pub remaining_by : {S : Type 0} → Dropping S → Bool → S → Kind → List Node → List (Left S) → List (Left S)
remaining_by d loses s k children lefts = cond (loses && is_list k) (staying (λ c. not (d.drops s c)) children lefts) lefts

abbrev pub left_step : {S : Type 0} → Dropping S → Node → List (Left S) → Left S
left_step d node lefts loses s =
    let n = out-Node node in
    node_of n.span n.kind (left_in (loses_in loses n.kind) (seats_in d s n.kind n.children) (remaining_by d loses s n.kind n.children lefts))

abbrev pub left : {S : Type 0} → Dropping S → Node → Left S
left {S} d = from_leaves (Left S) (left_step d)

-- the tree without what is dropped, where its root stands there
--   import { a, b } from "m"; c;   // import { b } from "m"; or c; alone, or what else is left
abbrev pub without : {S : Type 0} → Dropping S → S → Node → Node
without d s tree = left d tree false s
