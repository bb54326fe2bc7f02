-- Where one node stands for one, and what stays stays.
use Rattle.std.specs.Prelude.{◌≡◌, ℕ, Bool, true, false, List, [], ◌∷◌, Some, slice_get}
use Rattle.std.specs.List.{list_all}
use Rattle.ecma_kind.specs.Sorts.{is_type_wrapper}
use Rattle.ecma_kind.specs.declared.kind.Kind.{Kind}
use Rattle.ecma_kind.specs.declared.shapes.Shape.{Shape}
use Rattle.ecma_kind.specs.declared.span.Span.{Span}
use Rattle.ecma_tree.specs.Nodes.{node_of}
use Rattle.ecma_tree.specs.Sorted.{HasShape, is_list}
use Rattle.ecma_tree.specs.Values.{is_value_where}
use Rattle.ecma_tree.specs.declared.node.Node.{Node, out-Node}
use Rattle.ecma_strip.specs.Staying.{is_declared, is_this, is_this_ident, stays}
use Rattle.ecma_rewriting.specs.Laws.{children}
use Rattle.ecma_rewriting.specs.Rewriting.{Rewriting, becomes, only}
use Rattle.ecma_strip_rewriting.specs.Commuting.{DoesElseNothing, of_staying}

-- of two nodes the same is said where it is asked what stays: whether they are values (where declarations stay, and where all is
-- ambient), declared, the name `this`
pub record SaidAlike (n m : Node) : Type 0 where
  pub value : (staying : Bool) → is_value_where staying m ≡ is_value_where staying n
  pub declared : is_declared (out-Node m).kind ≡ is_declared (out-Node n).kind
  pub this : is_this m ≡ is_this n
  pub name : is_this_ident (out-Node m).kind ≡ is_this_ident (out-Node n).kind
  pub stays : stays m ≡ stays n

-- a node becomes one of which the same is said
pub record StandsAlike (n : Node) (l : List Node) : Type 0 where
  pub one : l ≡ only l ∷ []
  pub said : SaidAlike n (only l)

abbrev pub Stands : {S : Type 0} → Rewriting S → Node → Type 0
Stands {S} r n = (t : Shape) → HasShape t n → (s : S) → StandsAlike n (becomes (of_staying r) s n)

-- an item that goes is left as it is, and where something is done one node is written for one
pub record OneForOne {S : Type 0} (r : Rewriting S) (raw : S → Bool) (acts : Kind → Bool) : Type 0 where
  pub unkept : (s : S) (c : Node) → r.unkept s c ≡ c ∷ []
  pub acting : (s : S) (t : Shape) (span : Span) (k : Kind) (cs : List Node) → raw s ≡ false → acts k ≡ true → is_list k ≡ false →
      is_type_wrapper k ≡ false →
      HasShape t (node_of span k cs) → ((i : ℕ) (c : Node) → slice_get cs i ≡ Some c → Stands r c) →
      StandsAlike (node_of span k cs) (r.here s span k cs (children (of_staying r) (r.seat s k cs) 0 cs))

-- so of what stays all that it becomes stays
abbrev pub WhatStaysStays : Type 0 → Type 0
WhatStaysStays S =
    (r : Rewriting S) (raw : S → Bool) (leaves : S → Kind → Bool) (acts : Kind → Bool) → DoesElseNothing r raw leaves acts →
    OneForOne r raw acts → (n : Node) (t : Shape) → HasShape t n →
    stays n ≡ true → (s : S) → list_all stays (becomes (of_staying r) s n) ≡ true
