-- Rewriting and the shapes of trees, and so their sorts.
use Rattle.std.specs.Prelude.{◌≡◌, ℕ, zero, suc, Bool, true, false, List, [], ◌∷◌, map, length, Some, slice_get}
use Rattle.std.specs.List.{All}
use Rattle.ecma_kind.specs.declared.kind.Kind.{Kind}
use Rattle.ecma_kind.specs.declared.kind.Kind.TheVariants as kind
use Rattle.ecma_kind.specs.declared.shapes.Shape.{Shape}
use Rattle.ecma_kind.specs.declared.span.Span.{Span}
use Rattle.ecma_tree.specs.Laws.{HaveShapes}
use Rattle.ecma_tree.specs.Nodes.{node_of}
use Rattle.ecma_tree.specs.Sorted.{HasShape, allows, child_shapes, is_list, item_shape}
use Rattle.ecma_tree.specs.declared.node.Node.{Node}
use Rattle.ecma_rewriting.specs.Rewriting.{Rewriting, becomes, only}

-- nodes of a shape: several or none, or exactly one
pub record Fills (several : Bool) (t : Shape) (ns : List Node) : Type 0 where
  pub each : All (HasShape t) ns
  pub single : several ≡ false → ns ≡ only ns ∷ []

-- what stands in seats: which shapes suit a seat, the shape that each becomes there, and whether a node becomes several there
pub record Places (S : Type 0) : Type 0 where
  pub suits : S → Shape → Bool
  pub to : S → Shape → Shape
  pub several : S → Bool

abbrev pub Suits : {S : Type 0} → Places S → S → Shape → Type 0
Suits p s t = p.suits s t ≡ true

-- a node became these: whatever its shape is, where it suits the seat
abbrev pub Became : {S : Type 0} → Places S → S → Node → List Node → Type 0
Became p s c l = (u : Shape) → HasShape u c → Suits p s u → Fills (p.several s) (p.to s u) l

-- each child became its own
abbrev pub AllBecame : {S : Type 0} → Places S → (ℕ → S) → ℕ → List Node → List (List Node) → Type 0
AllBecame p seat i [] [] = Unit
AllBecame p seat i (c ∷ cs) (l ∷ ls) = Became p (seat i) c l × AllBecame p seat (suc i) cs ls
AllBecame p seat i _ _ = ⊥

-- what a rewriting owes: that shapes suit seats further down, and that what it writes at a node, over what the children became, is of
-- the shape that its seat gives it
pub record Turns {S : Type 0} (r : Rewriting S) (p : Places S) : Type 0 where
  pub along : (s : S) (t : Shape) (c : Node) → Suits p s t → HasShape t c → r.keeps c ≡ true →
      Suits p (r.next s c) t × (p.to (r.next s c) t ≡ p.to s t)
  pub unkept : (s : S) (t : Shape) (c : Node) → Suits p s t → HasShape t c → r.keeps c ≡ false → All (HasShape (p.to s t)) (r.unkept s c)
  pub listed : (s : S) (t : Shape) → Suits p s t → allows t kind.List ≡ true →
      Suits p s (item_shape t) × (allows (p.to s t) kind.List ≡ true) × (p.to s (item_shape t) ≡ item_shape (p.to s t))
  pub here : (s : S) (t : Shape) (span : Span) (k : Kind) (cs : List Node) (lists : List (List Node)) → is_list k ≡ false →
      Suits p s t → HasShape t (node_of span k cs) →
      AllBecame p (r.seat s k cs) 0 cs lists → Fills (p.several s) (p.to s t) (r.here s span k cs lists)

-- then a tree of a shape that suits its seat becomes nodes of the shape that the seat gives it
abbrev pub ShapesTurn : Type 0 → Type 0
ShapesTurn S = (r : Rewriting S) (p : Places S) → Turns r p → (s : S) (t : Shape) (n : Node) → HasShape t n → Suits p s t →
    Fills (p.several s) (p.to s t) (becomes r s n)

-- children of these shapes suit their seats, and become one of that shape each
pub record Single {S : Type 0} (p : Places S) (seat : ℕ → S) (shapes : List Shape) : Type 0 where
  pub suits : (i : ℕ) (u : Shape) → slice_get shapes i ≡ Some u → Suits p (seat i) u
  pub same : (i : ℕ) (u : Shape) → slice_get shapes i ≡ Some u → p.to (seat i) u ≡ u
  pub one : (i : ℕ) (u : Shape) → slice_get shapes i ≡ Some u → p.several (seat i) ≡ false

-- a node over what such children became has the shape that it had, also with another kind that the shape allows and that asks the same
-- of children
abbrev pub NodesOfOnesKeepShapes : Type 0 → Type 0
NodesOfOnesKeepShapes S =
    (p : Places S) (seat : ℕ → S) (t : Shape) (span : Span) (k : Kind) (cs : List Node) (lists : List (List Node)) →
    HasShape t (node_of span k cs) → Single p seat (child_shapes k t (length cs)) → AllBecame p seat 0 cs lists →
    HasShape t (node_of span k (map only lists))

-- where one node stands for one, each in a seat that its shape suits
abbrev pub ones : {S : Type 0} → (S → Shape → Bool) → Places S
ones suits = record { suits = suits; to = λ s t. t; several = λ s. false }

pub record Exchanges {S : Type 0} (r : Rewriting S) (suits : S → Shape → Bool) : Type 0 where
  pub kept : (c : Node) → r.keeps c ≡ true
  pub along : (s : S) (t : Shape) (c : Node) → suits s t ≡ true → suits (r.next s c) t ≡ true
  pub listed : (s : S) (t : Shape) → suits s t ≡ true → suits s (item_shape t) ≡ true
  pub below : (s : S) (t : Shape) (k : Kind) (cs : List Node) → is_list k ≡ false → suits s t ≡ true → allows t k ≡ true →
      (i : ℕ) (u : Shape) →
      slice_get (child_shapes k t (length cs)) i ≡ Some u → suits (r.seat s k cs i) u ≡ true
  pub here : (s : S) (t : Shape) (span : Span) (k : Kind) (cs : List Node) (lists : List (List Node)) → is_list k ≡ false →
      suits s t ≡ true → allows t k ≡ true →
      AllBecame (ones suits) (r.seat s k cs) 0 cs lists → HasShape t (node_of span k (map only lists)) →
      Fills false t (r.here s span k cs lists)

-- then a tree becomes one tree of its shape
abbrev pub ExchangesKeepShapes : Type 0 → Type 0
ExchangesKeepShapes S = (r : Rewriting S) (suits : S → Shape → Bool) → Exchanges r suits → (s : S) (t : Shape) (n : Node) →
    HasShape t n → suits s t ≡ true →
    Fills false t (becomes r s n)
