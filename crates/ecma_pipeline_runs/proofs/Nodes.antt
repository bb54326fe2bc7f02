-- What holds throughout a tree holds of each node, and of each child; and what is asked of all but what goes from a list.
use Rattle.std.proofs.Common.{◌≡◌, ℕ, zero, suc, Bool, true, false, ◌&&◌, ◌||◌, not, List, [], ◌∷◌, Option, Some, None, refl, sym, ap, ◌∙◌, slice_get, map, subst}
use Rattle.std.specs.List.{list_all, list_any}
use Rattle.ecma_kind.specs.declared.kind.Kind.{Kind}
use Rattle.ecma_kind.specs.declared.shapes.Shape.{Shape}
use Rattle.ecma_tree.specs.declared.node.Node.{Node, Node-F, ind-Node, out-Node, roll-Node}
use Rattle.ecma_tree.specs.declared.node.Node.TheViews.{out-roll-Node, roll-out-Node}
use Rattle.ecma_tree.specs.Laws.{HaveShapes}
use Rattle.ecma_tree.specs.Sorted.{HasShape, has_shape, is_list}
use Rattle.ecma_strip.specs.Staying.{stays}
use Rattle.ecma_hygiene.proofs.Telling.{and-both, and-left, and-right, true-false}
use Rattle.ecma_strip_runs.specs.UsualBodies.{holds_throughout}
use Rattle.ecma_strip_runs.proofs.Telling.{holds-roll}
use Rattle.ecma_sources.specs.TypesAlone.{adds_types_alone, adds_types_by, alone_step, has_ambient_head, has_bodiless, has_stray_receiver, is_lowered, staying_hold}
use Rattle.ecma_tree.proofs.Layers.{from_leaves_out}

pub some-same : {X : Type 0} {x y : X} → Some x ≡ Some y → x ≡ y
some-same e = cc

pub none-some : {X : Type 0} {x : X} {A : Type 0} → ◌≡◌ {A = Option X} None (Some x) → A
none-some e = absurd (cc)

pub neither : (a b : Bool) → (a || b) ≡ false → (a ≡ false) × (b ≡ false)
neither true b h = absurd (true-false refl h)
neither false b h = (refl, h)

pub or-right : (a b : Bool) → a ≡ false → (a || b) ≡ true → b ≡ true
or-right true b e h = absurd (true-false refl e)
or-right false b e h = h

pub not-false : (b : Bool) → not b ≡ false → b ≡ true
not-false true h = refl
not-false false h = absurd (true-false refl h)

pub not-true : (b : Bool) → not b ≡ true → b ≡ false
not-true true h = cc
not-true false h = refl

pub all-at : {X : Type 0} (f : X → Bool) (xs : List X) (i : ℕ) (x : X) → list_all f xs ≡ true → slice_get xs i ≡ Some x → f x ≡ true
all-at f [] i x h at = none-some at
all-at f (y ∷ ys) zero x h at = ap f (sym (some-same at)) ∙ and-left (f y) (list_all f ys) h
all-at f (y ∷ ys) (suc i) x h at = all-at f ys i x (and-right (f y) (list_all f ys) h) at

pub any-at : {X : Type 0} (f : X → Bool) (xs : List X) (i : ℕ) (x : X) → list_any f xs ≡ false → slice_get xs i ≡ Some x → f x ≡ false
any-at f [] i x h at = none-some at
any-at f (y ∷ ys) zero x h at = ap f (sym (some-same at)) ∙ (neither (f y) (list_any f ys) h).0
any-at f (y ∷ ys) (suc i) x h at = any-at f ys i x (neither (f y) (list_any f ys) h).1 at

module _ (test : Kind → List Node → Bool) where
  pub holds-out : (n : Node) → holds_throughout test n ≡ (test (out-Node n).kind (out-Node n).children && list_all (holds_throughout test) (out-Node n).children)
  holds-out n = ap (holds_throughout test) (sym (roll-out-Node n)) ∙ holds-roll test (out-Node n)

  pub test-here : (n : Node) → holds_throughout test n ≡ true → test (out-Node n).kind (out-Node n).children ≡ true
  test-here n h = and-left (test (out-Node n).kind (out-Node n).children) (list_all (holds_throughout test) (out-Node n).children) (sym (holds-out n) ∙ h)

  pub test-below : (n : Node) → holds_throughout test n ≡ true → (i : ℕ) (c : Node) → slice_get (out-Node n).children i ≡ Some c → holds_throughout test c ≡ true
  test-below n h i c at =
      all-at (holds_throughout test) (out-Node n).children i c (and-right (test (out-Node n).kind (out-Node n).children) (list_all (holds_throughout test) (out-Node n).children) (sym (holds-out n) ∙ h)) at

-- ---- what stays

-- an item of a list stays, and what stands in no list
abbrev pub StaysIn : Kind → Node → Type 0
StaysIn k c = is_list k ≡ true → stays c ≡ true

pub in-no-list : (k : Kind) (c : Node) → is_list k ≡ false → StaysIn k c
in-no-list k c other is = absurd (true-false is other)

asked : (list st holds : Bool) → ((list && not st) || holds) ≡ true → (list ≡ true → st ≡ true) → holds ≡ true
asked true true holds h g = h
asked true false holds h g = absurd (true-false (g refl) refl)
asked false st holds h g = h

hold-at : (list : Bool) (cs : List Node) → staying_hold list cs (map adds_types_alone cs) ≡ true → (i : ℕ) (c : Node) → slice_get cs i ≡ Some c → (list ≡ true → stays c ≡ true) → adds_types_alone c ≡ true
hold-at list [] h i c at st = none-some at
hold-at list (d ∷ ds) h zero c at st =
    ap adds_types_alone (sym (some-same at))
    ∙ asked list (stays d) (adds_types_alone d) (and-left ((list && not (stays d)) || adds_types_alone d) (staying_hold list ds (map adds_types_alone ds)) h) (λ is. ap stays (some-same at) ∙ st is)
hold-at list (d ∷ ds) h (suc i) c at st = hold-at list ds (and-right ((list && not (stays d)) || adds_types_alone d) (staying_hold list ds (map adds_types_alone ds)) h) i c at st

made : (list st holds : Bool) → ((list ≡ true → st ≡ true) → holds ≡ true) → ((list && not st) || holds) ≡ true
made true true holds g = g (λ is. refl)
made true false holds g = refl
made false st holds g = g (λ is. absurd (true-false is refl))

hold-made : (list : Bool) (cs : List Node) → ((i : ℕ) (c : Node) → slice_get cs i ≡ Some c → (list ≡ true → stays c ≡ true) → adds_types_alone c ≡ true) → staying_hold list cs (map adds_types_alone cs) ≡ true
hold-made list [] each = refl
hold-made list (d ∷ ds) each =
    and-both ((list && not (stays d)) || adds_types_alone d) (staying_hold list ds (map adds_types_alone ds)) (made list (stays d) (adds_types_alone d) (each 0 d refl)) (hold-made list ds (λ i c at. each (suc i) c at))

pub alone-out : (n : Node) → adds_types_alone n ≡ alone_step n (map adds_types_alone (out-Node n).children)
alone-out n = from_leaves_out Bool alone_step n

pub alone-here : (n : Node) → adds_types_alone n ≡ true → adds_types_by (out-Node n).kind (out-Node n).children ≡ true
alone-here n h =
    and-left (adds_types_by (out-Node n).kind (out-Node n).children) (staying_hold (is_list (out-Node n).kind) (out-Node n).children (map adds_types_alone (out-Node n).children)) (sym (alone-out n) ∙ h)

pub alone-below : (n : Node) → adds_types_alone n ≡ true → (i : ℕ) (c : Node) → slice_get (out-Node n).children i ≡ Some c → StaysIn (out-Node n).kind c → adds_types_alone c ≡ true
alone-below n h =
    hold-at (is_list (out-Node n).kind) (out-Node n).children
    (and-right (adds_types_by (out-Node n).kind (out-Node n).children) (staying_hold (is_list (out-Node n).kind) (out-Node n).children (map adds_types_alone (out-Node n).children)) (sym (alone-out n) ∙ h))

pub alone-made : (n : Node) → adds_types_by (out-Node n).kind (out-Node n).children ≡ true
    → ((i : ℕ) (c : Node) → slice_get (out-Node n).children i ≡ Some c → StaysIn (out-Node n).kind c → adds_types_alone c ≡ true) → adds_types_alone n ≡ true
alone-made n h each =
    alone-out n
    ∙ and-both (adds_types_by (out-Node n).kind (out-Node n).children) (staying_hold (is_list (out-Node n).kind) (out-Node n).children (map adds_types_alone (out-Node n).children)) h
    (hold-made (is_list (out-Node n).kind) (out-Node n).children each)

module _ (n : Node) (alone : adds_types_alone n ≡ true) where
  abbrev last : Bool
  last = not (has_bodiless (out-Node n).kind (out-Node n).children) && not (has_stray_receiver (out-Node n).kind (out-Node n).children)

  abbrev rest : Bool
  rest = not (has_ambient_head (out-Node n).kind (out-Node n).children) && last

  parts : (not (is_lowered (out-Node n).kind) && rest) ≡ true
  parts = alone-here n alone

  pub not-lowered : is_lowered (out-Node n).kind ≡ false
  not-lowered = not-true (is_lowered (out-Node n).kind) (and-left (not (is_lowered (out-Node n).kind)) rest parts)

  pub no-ambient-head : has_ambient_head (out-Node n).kind (out-Node n).children ≡ false
  no-ambient-head = not-true _ (and-left (not (has_ambient_head (out-Node n).kind (out-Node n).children)) last (and-right (not (is_lowered (out-Node n).kind)) rest parts))

  last-holds : last ≡ true
  last-holds = and-right (not (has_ambient_head (out-Node n).kind (out-Node n).children)) last (and-right (not (is_lowered (out-Node n).kind)) rest parts)

  pub no-bodiless : has_bodiless (out-Node n).kind (out-Node n).children ≡ false
  no-bodiless = not-true _ (and-left (not (has_bodiless (out-Node n).kind (out-Node n).children)) (not (has_stray_receiver (out-Node n).kind (out-Node n).children)) last-holds)

  pub no-stray : has_stray_receiver (out-Node n).kind (out-Node n).children ≡ false
  no-stray = not-true _ (and-right (not (has_bodiless (out-Node n).kind (out-Node n).children)) (not (has_stray_receiver (out-Node n).kind (out-Node n).children)) last-holds)

-- what holds of a node where it holds of its children, holds of each
module _ (P : Node → Type 0) where
  each : (ns : List ((n : Node) × P n)) (i : ℕ) (c : Node) → slice_get (map (λ e. e.0) ns) i ≡ Some c → P c
  each [] i c at = none-some at
  each (n ∷ ns) zero c at = subst P (some-same at) n.1
  each (n ∷ ns) (suc i) c at = each ns i c at

  pub by-children : ((n : Node) → ((i : ℕ) (c : Node) → slice_get (out-Node n).children i ≡ Some c → P c) → P n) → (n : Node) → P n
  by-children layer = ind-Node P (λ x y is. layer (roll-Node x) (λ i c at.
      each y.children i c (ap (λ (z : Node-F Node). slice_get z.children i) is ∙ sym (ap (λ (z : Node-F Node). slice_get z.children i) (out-roll-Node x)) ∙ at)))

-- a child has the shape that is asked of it
pub child-shape : (shapes : List Shape) (cs : List Node) → HaveShapes shapes cs → (i : ℕ) (c : Node) → slice_get cs i ≡ Some c → (o : Shape) × (slice_get shapes i ≡ Some o) × HasShape o c
child-shape [] [] h i c at = none-some at
child-shape [] (x ∷ xs) h i c at = absurd h
child-shape (o ∷ os) [] h i c at = absurd h
child-shape (o ∷ os) (x ∷ xs) h zero c at = let same : x ≡ c = some-same at in (o, refl, ap (λ z. has_shape z o) (sym same) ∙ h.0)
child-shape (o ∷ os) (x ∷ xs) h (suc i) c at = child-shape os xs h.1 i c at
