-- What stays of a list is no deeper than the list.
use Rattle.std.proofs.Common.{◌≡◌, ℕ, zero, suc, ◌+◌, ◌<◌, ◌≤◌, max, Bool, true, false, not, cond, List, [], ◌∷◌, filter, Some, ◌∙◌, arith, slice_get}
use denote.Param.Weighed.{most}
use Rattle.ecma_kind.specs.declared.kind.Kind.{Kind}
use Rattle.ecma_kind.specs.declared.kind.Kind.TheVariants as kind
use Rattle.ecma_tree.specs.declared.node.Node.{Node, out-Node, size-Node, size_is-Node}
use Rattle.ecma_elide.specs.declared.seat.Seat.{Seat}
use Rattle.ecma_elide.specs.Elision.{remaining}
use Rattle.ecma_elide.specs.Rules.{Known, goes}

item-most : (ns : List Node) (i : ℕ) (x : Node) → slice_get ns i ≡ Some x → size-Node x ≤ most size-Node ns
item-most [] i x at = cc
item-most (n ∷ ns) zero x at = let same : n ≡ x = cc in rw (← same) (omega arith)
item-most (n ∷ ns) (suc i) x at = let h : size-Node x ≤ most size-Node ns = item-most ns i x at in omega arith

module _ (p : Node → Bool) where
  chosen-most : (b : Bool) (n : Node) (kept : List Node) (m : ℕ) → most size-Node kept ≤ m → most size-Node (cond b (n ∷ kept) kept) ≤ max (size-Node n) m
  chosen-most true n kept m below = omega arith
  chosen-most false n kept m below = omega arith

  filter-most : (ns : List Node) → most size-Node (filter p ns) ≤ most size-Node ns
  filter-most [] = omega arith
  filter-most (n ∷ ns) = chosen-most (p n) n (filter p ns) (most size-Node ns) (filter-most ns)

remaining-most : (known : Known) (s : Seat) (k : Kind) (ns : List Node) → most size-Node (remaining known s k ns) ≤ most size-Node ns
remaining-most known s kind.List ns = filter-most (λ n. not (goes known s (out-Node n).kind (out-Node n).children)) ns
remaining-most known s _ ns = omega arith

maxes : (m : ℕ) → max 0 (max 0 (max m 0)) + 1 ≡ m + 1
maxes m = omega arith

size-children : (n : Node) → size-Node n ≡ most size-Node (out-Node n).children + 1
size-children n = size_is-Node n ∙ maxes (most size-Node (out-Node n).children)

pub remaining-smaller : (known : Known) (s : Seat) (n x : Node) (i : ℕ) → slice_get (remaining known s (out-Node n).kind (out-Node n).children) i ≡ Some x → size-Node x < size-Node n
remaining-smaller known s n x i at =
    let h : size-Node x ≤ most size-Node (remaining known s (out-Node n).kind (out-Node n).children) = item-most _ i x at in
    let k = remaining-most known s (out-Node n).kind (out-Node n).children in
    let s = size-children n in
    omega arith
