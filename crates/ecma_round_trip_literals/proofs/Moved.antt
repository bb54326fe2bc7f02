-- A tree with source texts: what is said of kinds without looking at source texts is said of its nodes as before.
use Rattle.std.proofs.Common.{◌≡◌, ◌∙◌, ℕ, zero, suc, Bool, ◌&&◌, List, [], ◌∷◌, map, length, Option, refl, sym, ap, ap₂, subst, slice_get}
use Rattle.std.specs.List.{list_all}
use Rattle.std.proofs.lemmas.List.{length-map}
use Rattle.ecma_kind.specs.declared.kind.Kind.{Kind}
use Rattle.ecma_kind.specs.declared.kind.Kind.TheVariants as kind
use Rattle.ecma_kind.specs.declared.span.Span.{Span}
use Rattle.ecma_tree.specs.declared.node.Node.{Node, Node-F, fold-Node, fold-roll-Node, ind-Node, out-Node, roll-Node}
use Rattle.ecma_tree.specs.declared.node.Node.TheViews.{out-roll-Node}
use Rattle.ecma_tree.specs.Changing.{changed_here}
use Rattle.ecma_tree.proofs.Changing.{changed-parts}
use Rattle.ecma_tree.proofs.Layers.{from_leaves-roll}
use Rattle.ecma_rules.specs.Children.{child_holds, child_is, children_of as items_of, has_child, holds_of, is_present, items_at, kind_of, of_kind}
use Rattle.ecma_rules.specs.Failing.{failing_step, first_failing, least, least_from}
use Rattle.ecma_number.specs.declared.js_number.JsNumber.{JsNumber}
use Rattle.ecma_print.specs.Escapes.{made_text}
use Rattle.ecma_round_trip_literals.specs.Sources.{number_source, source_or, with_source, with_sources}
use Rattle.ecma_plain.specs.Writable.{big_text}

-- the source text of a literal is nothing to it
abbrev pub Blind : (A : Type 0) → (Kind → A) → Type 0
Blind A f = ((value : List ℕ) (raw other : Option (List ℕ)) → f (kind.Str value raw) ≡ f (kind.Str value other))
    × ((value : Option JsNumber) (raw other : Option (List ℕ)) → f (kind.Number value raw) ≡ f (kind.Number value other))
    × ((value : List ℕ) (raw other : Option (List ℕ)) → f (kind.BigInt value raw) ≡ f (kind.BigInt value other))

abbrev pub children_of : Node → List Node
children_of n = (out-Node n).children

abbrev pub to : Node → Node
to = with_sources

pub parts_moved : (n : Node) → out-Node (to n) ≡ record { span = (out-Node n).span; kind = with_source (kind_of n); children = map to (children_of n) }
parts_moved n = ap out-Node (changed-parts (λ span. span) with_source n) ∙ out-roll-Node (record { span = (out-Node n).span; kind = with_source (kind_of n); children = map to (children_of n) })

pub kind_moved : (n : Node) → kind_of (to n) ≡ with_source (kind_of n)
kind_moved n = ap (λ z. z.kind) (parts_moved n)

pub children_moved : (n : Node) → children_of (to n) ≡ map to (children_of n)
children_moved n = ap (λ z. z.children) (parts_moved n)

pub span_moved : (n : Node) → (out-Node (to n)).span ≡ (out-Node n).span
span_moved n = ap (λ z. z.span) (parts_moved n)

pub blind : (A : Type 0) (f : Kind → A) → Blind A f → (k : Kind) → f (with_source k) ≡ f k
blind A f b (kind.Str value raw) = b.0 value (source_or (made_text value) raw) raw
blind A f b (kind.Number value raw) = b.1 value (number_source value raw) raw
blind A f b (kind.BigInt value raw) = b.2 value (source_or (big_text value) raw) raw
blind A f b _ = refl

-- what is said of the kind of a node
pub kind_same : (A : Type 0) (f : Kind → A) → Blind A f → (n : Node) → f (kind_of (to n)) ≡ f (kind_of n)
kind_same A f b n = ap f (kind_moved n) ∙ blind A f b (kind_of n)

pub kind_at : (is : Kind → Bool) → Blind Bool is → (ns : List Node) (i : ℕ) → of_kind is (slice_get (map to ns) i) ≡ of_kind is (slice_get ns i)
kind_at is b [] i = refl
kind_at is b (n ∷ ns) zero = kind_same Bool is b n
kind_at is b (n ∷ ns) (suc i) = kind_at is b ns i

pub child_same : (is : Kind → Bool) → Blind Bool is → (n : Node) (i : ℕ) → child_is is (to n) i ≡ child_is is n i
child_same is b n i = ap (λ (z : List Node). of_kind is (slice_get z i)) (children_moved n) ∙ kind_at is b (children_of n) i

pub has_same : (n : Node) (i : ℕ) → has_child (to n) i ≡ has_child n i
has_same = child_same is_present (λ v r s. refl, λ v r s. refl, λ v r s. refl)

abbrev pub Same : (Node → Bool) → Type 0
Same test = (n : Node) → test (to n) ≡ test n

test_at : (test : Node → Bool) → Same test → (ns : List Node) (i : ℕ) → holds_of test (slice_get (map to ns) i) ≡ holds_of test (slice_get ns i)
test_at test s [] i = refl
test_at test s (n ∷ ns) zero = s n
test_at test s (n ∷ ns) (suc i) = test_at test s ns i

pub holds_same : (test : Node → Bool) → Same test → (n : Node) (i : ℕ) → child_holds test (to n) i ≡ child_holds test n i
holds_same test s n i = ap (λ (z : List Node). holds_of test (slice_get z i)) (children_moved n) ∙ test_at test s (children_of n) i

items_in : (ns : List Node) (i : ℕ) → items_of (slice_get (map to ns) i) ≡ map to (items_of (slice_get ns i))
items_in [] i = refl
items_in (n ∷ ns) zero = children_moved n
items_in (n ∷ ns) (suc i) = items_in ns i

pub items_same : (n : Node) (i : ℕ) → items_at (to n) i ≡ map to (items_at n i)
items_same n i = ap (λ (z : List Node). items_of (slice_get z i)) (children_moved n) ∙ items_in (children_of n) i

pub all_same : (test : Node → Bool) → Same test → (ns : List Node) → list_all test (map to ns) ≡ list_all test ns
all_same test s [] = refl
all_same test s (n ∷ ns) = ap₂ (λ a b. a && b) (s n) (all_same test s ns)

pub length_same : (n : Node) → length (children_of (to n)) ≡ length (children_of n)
length_same n = ap length (children_moved n) ∙ length-map (children_of n) to

-- what is made from the leaves up
module _ (A : Type 0) (step : Node-F A → A)
    (same : (span : Span) (k : Kind) (cs : List A) → step (record { span = span; kind = with_source k; children = cs }) ≡ step (record { span = span; kind = k; children = cs })) where
  all_folded : (es : List ((n : Node) × (fold-Node A step (to n) ≡ fold-Node A step n))) → map (fold-Node A step) (map to (map (λ e. e.0) es)) ≡ map (fold-Node A step) (map (λ e. e.0) es)
  all_folded [] = refl
  all_folded (e ∷ es) = ap₂ (λ a b. a ∷ b) e.1 (all_folded es)

  layer_folded : (x : Node-F Node) → map (fold-Node A step) (map to x.children) ≡ map (fold-Node A step) x.children → fold-Node A step (to (roll-Node x)) ≡ fold-Node A step (roll-Node x)
  layer_folded x below =
      ap (fold-Node A step) (fold-roll-Node Node (changed_here (λ span. span) with_source) x)
      ∙ fold-roll-Node A step (record { span = x.span; kind = with_source x.kind; children = map to x.children })
      ∙ ap (λ (z : List A). step (record { span = x.span; kind = with_source x.kind; children = z })) below
      ∙ same x.span x.kind (map (fold-Node A step) x.children)
      ∙ sym (fold-roll-Node A step x)

  pub fold_same : (n : Node) → fold-Node A step (to n) ≡ fold-Node A step n
  fold_same = ind-Node (λ n. fold-Node A step (to n) ≡ fold-Node A step n) (λ x y is.
      layer_folded x (subst (λ (z : Node-F Node). map (fold-Node A step) (map to z.children) ≡ map (fold-Node A step) z.children) is (all_folded y.children)))

-- a walk in which what each node tells, and what is around its children, looks at no source text
module _ (A : Type 0) (place : A → Node → Option ℕ) (inside : A → Node → ℕ → A)
    (place_same : (a : A) (n : Node) → place a (to n) ≡ place a n) (inside_same : (a : A) (n : Node) (i : ℕ) → inside a (to n) i ≡ inside a n i) where
  abbrev first : Node → A → Option ℕ
  first = first_failing A place inside

  abbrev Tells : Node → Type 0
  Tells n = (a : A) → first (to n) a ≡ first n a

  all_tell : (es : List ((n : Node) × Tells n)) (around other : ℕ → A) → ((i : ℕ) → around i ≡ other i) → (k : ℕ)
      → least_from A around k (map first (map to (map (λ e. e.0) es))) ≡ least_from A other k (map first (map (λ e. e.0) es))
  all_tell [] around other is k = refl
  all_tell (e ∷ es) around other is k = ap₂ least (ap (first (to e.0)) (is k) ∙ e.1 (other k)) (all_tell es around other is (suc k))

  abbrev AllTell : List Node → Type 0
  AllTell ns = (around other : ℕ → A) → ((i : ℕ) → around i ≡ other i) → (k : ℕ) → least_from A around k (map first (map to ns)) ≡ least_from A other k (map first ns)

  node_tells : (x : Node-F Node) → AllTell x.children → Tells (roll-Node x)
  node_tells x below a =
      let y : Node-F Node = record { span = x.span; kind = with_source x.kind; children = map to x.children } in
      let n = roll-Node x in
      let is : to n ≡ roll-Node y = fold-roll-Node Node (changed_here (λ span. span) with_source) x in
      ap (λ (m : Node). first m a) is
      ∙ ap (λ f. f a) (from_leaves-roll (A → Option ℕ) (failing_step A place inside) y)
      ∙ ap₂ least (ap (place a) (sym is) ∙ place_same a n) (below (inside a (roll-Node y)) (inside a n) (λ i. ap (λ (m : Node). inside a m i) (sym is) ∙ inside_same a n i) 0)
      ∙ sym (ap (λ f. f a) (from_leaves-roll (A → Option ℕ) (failing_step A place inside) x))

  pub walk_same : (n : Node) → Tells n
  walk_same = ind-Node Tells (λ x y is. node_tells x (subst (λ (z : Node-F Node). AllTell z.children) is (all_tell y.children)))
