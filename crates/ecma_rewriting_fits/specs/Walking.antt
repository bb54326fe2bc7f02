-- A walk that tells nothing over a tree tells nothing over what becomes of it: what a rewriting owes for that, once for every walk.
use Rattle.std.specs.Prelude.{◌≡◌, ℕ, suc, Bool, true, false, cond, List, [], ◌∷◌, length, Option, Some, None, slice_get}
use Rattle.std.specs.List.{All}
use Rattle.ecma_kind.specs.declared.kind.Kind.{Kind}
use Rattle.ecma_kind.specs.declared.kind.Kind.TheVariants as kind
use Rattle.ecma_kind.specs.declared.shapes.Shape.{Shape}
use Rattle.ecma_kind.specs.declared.span.Span.{Span}
use Rattle.ecma_tree.specs.Nodes.{node_of}
use Rattle.ecma_tree.specs.Sorted.{HasShape, is_list, item_shape}
use Rattle.ecma_tree.specs.declared.node.Node.{Node}
use Rattle.ecma_rules.specs.Failing.{first_failing}
use Rattle.ecma_rewriting.specs.Laws.{children, items}
use Rattle.ecma_rewriting.specs.Rewriting.{Rewriting, becomes}
use Rattle.ecma_rewriting.specs.Shapes.{Places, Suits, Turns}

-- a walk: what is around a child, and the place that a node tells, in the tree before and in the tree after
pub record Walk (A : Type 0) : Type 0 where
  pub inside : A → Node → ℕ → A
  pub before : A → Node → Option ℕ
  pub after : A → Node → Option ℕ

-- it tells nothing of a tree before, with this around it; and nothing of one after
abbrev pub Passes : {A : Type 0} → Walk A → A → Node → Type 0
Passes {A} w a n = first_failing A w.before w.inside n a ≡ None

abbrev pub PassesAfter : {A : Type 0} → Walk A → A → Node → Type 0
PassesAfter {A} w b n = first_failing A w.after w.inside n b ≡ None

-- what ties a tree to what becomes of it: how what is around a node of a shape agrees with what is around those that stand for it; and how they are like it
pub record Ties (S A : Type 0) : Type 1 where
  pub agree : S → Shape → A → A → Type 0
  pub like : S → Node → List Node → Type 0

-- what becomes of a node passes where it passed, and is like it
pub record Went {S A : Type 0} (w : Walk A) (ties : Ties S A) (s : S) (n : Node) (b : A) (l : List Node) : Type 0 where
  pub passes : All (PassesAfter w b) l
  pub alike : ties.like s n l

abbrev pub Goes : {S A : Type 0} → Rewriting S → Places S → Walk A → Ties S A → Node → Type 0
Goes {S} {A} r p w ties n = (s : S) (t : Shape) (a b : A) → HasShape t n → Suits p s t → ties.agree s t a b → Passes w a n → Went w ties s n b (becomes r s n)

-- the items of a list are like what they become
abbrev pub ItemsAlike : {S A : Type 0} → Rewriting S → Ties S A → S → List Node → Type 0
ItemsAlike r ties s [] = Unit
ItemsAlike r ties s (c ∷ cs) = (r.keeps c ≡ true → ties.like s c (becomes r s c)) × ItemsAlike r ties (cond (r.keeps c) (r.next s c) s) cs

abbrev pub ChildrenAlike : {S A : Type 0} → Rewriting S → Ties S A → (ℕ → S) → ℕ → List Node → Type 0
ChildrenAlike r ties seat i [] = Unit
ChildrenAlike r ties seat i (c ∷ cs) = ties.like (seat i) c (becomes r (seat i) c) × ChildrenAlike r ties seat (suc i) cs

abbrev pub is_one_at_most : List Node → Bool
is_one_at_most [] = true
is_one_at_most (n ∷ []) = true
is_one_at_most _ = false

-- what a rewriting owes of lists: what is around agrees along a list; an item that goes leaves what passes; the list over what its items became passes and is
-- like it, and what is around its items agrees, of the last one with the last one where one stands for one
pub record ListsGo {S A : Type 0} (r : Rewriting S) (p : Places S) (w : Walk A) (ties : Ties S A) : Type 0 where
  pub along : (s : S) (t : Shape) (a b : A) (c : Node) → ties.agree s t a b → HasShape t c → r.keeps c ≡ true → ties.agree (r.next s c) t a b
  pub same : (s : S) (c : Node) → p.several (r.next s c) ≡ p.several s
  pub unkept : (s : S) (t : Shape) (a b : A) (c : Node) → ties.agree s t a b → HasShape t c → Passes w a c → r.keeps c ≡ false → All (PassesAfter w b) (r.unkept s c)
  pub few : (s : S) (c : Node) → p.several s ≡ false → r.keeps c ≡ false → is_one_at_most (r.unkept s c) ≡ true
  pub listed : (s : S) (t : Shape) (a b : A) (span : Span) (cs : List Node) → HasShape t (node_of span kind.List cs) → ties.agree s t a b →
      w.before a (node_of span kind.List cs) ≡ None → (i j : ℕ) → (p.several s ≡ false → suc i ≡ length cs → suc j ≡ length (items r s cs)) →
      ties.agree s (item_shape t) (w.inside a (node_of span kind.List cs) i) (w.inside b (node_of span kind.List (items r s cs)) j)
  pub here : (s : S) (t : Shape) (a b : A) (span : Span) (cs : List Node) → HasShape t (node_of span kind.List cs) → ties.agree s t a b →
      w.before a (node_of span kind.List cs) ≡ None → ItemsAlike r ties s cs → w.after b (node_of span kind.List (items r s cs)) ≡ None
  pub alike : (s : S) (t : Shape) (a b : A) (span : Span) (cs : List Node) → HasShape t (node_of span kind.List cs) → ties.agree s t a b →
      w.before a (node_of span kind.List cs) ≡ None → ItemsAlike r ties s cs → ties.like s (node_of span kind.List cs) (node_of span kind.List (items r s cs) ∷ [])

-- and of other nodes: where each child goes, in whatever seat, what is written in the place of the node does
abbrev pub NodesGo : {S A : Type 0} → Rewriting S → Places S → Walk A → Ties S A → Type 0
NodesGo {S} {A} r p w ties =
    (s : S) (t : Shape) (a b : A) (span : Span) (k : Kind) (cs : List Node) → is_list k ≡ false → HasShape t (node_of span k cs) → Suits p s t →
    ties.agree s t a b → Passes w a (node_of span k cs) → ((i : ℕ) (c : Node) → slice_get cs i ≡ Some c → Goes r p w ties c) →
    Went w ties s (node_of span k cs) b (r.here s span k cs (children r (r.seat s k cs) 0 cs))

-- the children of a node become one each, with around them what agrees; `middle` says what is around those that they become
pub record ChildrenGo {S A : Type 0} (p : Places S) (ties : Ties S A) (seat : ℕ → S) (shapes : List Shape) (outer middle : ℕ → A) : Type 0 where
  pub suits : (i : ℕ) (u : Shape) → slice_get shapes i ≡ Some u → Suits p (seat i) u
  pub one : (i : ℕ) (u : Shape) → slice_get shapes i ≡ Some u → p.several (seat i) ≡ false
  pub agree : (i : ℕ) (u : Shape) → slice_get shapes i ≡ Some u → ties.agree (seat i) u (outer i) (middle i)

-- so a walk that tells nothing over a tree tells nothing over what becomes of it
abbrev pub WalksGo : Type 0 → Type 0 → Type 1
WalksGo S A = (r : Rewriting S) (p : Places S) → Turns r p → (w : Walk A) (ties : Ties S A) → ListsGo r p w ties → NodesGo r p w ties → (n : Node) → Goes r p w ties n

-- ties by tests
abbrev pub ties_by : {S A : Type 0} → (S → Shape → A → A → Bool) → (S → Node → List Node → Bool) → Ties S A
ties_by agree like = record { agree = λ s t a b. agree s t a b ≡ true; like = λ s c l. like s c l ≡ true }

-- the same of ties that are tests
abbrev pub WalksGoByTests : Type 0 → Type 0 → Type 0
WalksGoByTests S A =
    (r : Rewriting S) (p : Places S) → Turns r p → (w : Walk A) (agree : S → Shape → A → A → Bool) (like : S → Node → List Node → Bool) →
    ListsGo r p w (ties_by agree like) → NodesGo r p w (ties_by agree like) → (n : Node) → Goes r p w (ties_by agree like) n
