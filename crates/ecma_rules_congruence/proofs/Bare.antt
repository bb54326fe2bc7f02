-- The tree without spans, node by node.
use Rattle.std.proofs.Common.{◌≡◌, ◌∙◌, ℕ, zero, suc, List, [], ◌∷◌, map, Option, Some, None, Bool, length, refl, ap, slice_get}
use Rattle.ecma_kind.specs.declared.kind.Kind.{Kind}
use Rattle.ecma_tree.specs.declared.node.Node.{Node, fold_out-Node, out-Node}
use Rattle.ecma_tree.specs.declared.node.Node.TheViews.{out-roll-Node}
use Rattle.ecma_tree.specs.Nodes.{dummy_span, node_of}
use Rattle.ecma_tree.specs.Spans.{unplaced, without_spans}
use Rattle.ecma_rules.specs.Children.{child_holds, child_is, children_of, has_child, holds_of, is_present, items_at, kind_of, of_kind}

bare : (n : Node) → without_spans n ≡ node_of dummy_span (out-Node n).kind (map without_spans (out-Node n).children)
bare = fold_out-Node Node unplaced

pub bare-kind : (n : Node) → kind_of (without_spans n) ≡ kind_of n
bare-kind n =
    ap kind_of (bare n) ∙ ap (λ p. p.kind) (out-roll-Node (record { span = dummy_span; kind = (out-Node n).kind; children = map without_spans (out-Node n).children }))

pub bare-children : (n : Node) → (out-Node (without_spans n)).children ≡ map without_spans (out-Node n).children
bare-children n =
    ap (λ m. (out-Node m).children) (bare n) ∙ ap (λ p. p.children) (out-roll-Node (record { span = dummy_span; kind = (out-Node n).kind; children = map without_spans (out-Node n).children }))

-- the child at an index, if there is one
abbrev pub bare_of : Option Node → Option Node
bare_of None = None
bare_of (Some n) = Some (without_spans n)

map-get : (ns : List Node) (i : ℕ) → slice_get (map without_spans ns) i ≡ bare_of (slice_get ns i)
map-get [] i = refl
map-get (n ∷ ns) zero = refl
map-get (n ∷ ns) (suc i) = map-get ns i

pub bare-child : (n : Node) (i : ℕ) → slice_get (out-Node (without_spans n)).children i ≡ bare_of (slice_get (out-Node n).children i)
bare-child n i = ap (λ ns. slice_get ns i) (bare-children n) ∙ map-get (out-Node n).children i

of-kind : (is : Kind → Bool) (child : Option Node) → of_kind is (bare_of child) ≡ of_kind is child
of-kind is None = refl
of-kind is (Some n) = ap is (bare-kind n)

pub bare-child_is : (is : Kind → Bool) (n : Node) (i : ℕ) → child_is is (without_spans n) i ≡ child_is is n i
bare-child_is is n i = ap (of_kind is) (bare-child n i) ∙ of-kind is (slice_get (out-Node n).children i)

pub bare-has_child : (n : Node) (i : ℕ) → has_child (without_spans n) i ≡ has_child n i
bare-has_child = bare-child_is is_present

-- a test that spans do not matter to
abbrev pub IsBare : {A : Type 0} → (Node → A) → Type 0
IsBare test = (n : Node) → test (without_spans n) ≡ test n

holds-of : (test : Node → Bool) → IsBare test → (child : Option Node) → holds_of test (bare_of child) ≡ holds_of test child
holds-of test same None = refl
holds-of test same (Some n) = same n

pub bare-child_holds : (test : Node → Bool) → IsBare test → (n : Node) (i : ℕ) → child_holds test (without_spans n) i ≡ child_holds test n i
bare-child_holds test same n i = ap (holds_of test) (bare-child n i) ∙ holds-of test same (slice_get (out-Node n).children i)

items-of : (child : Option Node) → children_of (bare_of child) ≡ map without_spans (children_of child)
items-of None = refl
items-of (Some n) = bare-children n

pub bare-items : (n : Node) (i : ℕ) → items_at (without_spans n) i ≡ map without_spans (items_at n i)
bare-items n i = ap children_of (bare-child n i) ∙ items-of (slice_get (out-Node n).children i)

map-length : (ns : List Node) → length (map without_spans ns) ≡ length ns
map-length [] = refl
map-length (n ∷ ns) = ap suc (map-length ns)

pub bare-count : (n : Node) → length (out-Node (without_spans n)).children ≡ length (out-Node n).children
bare-count n = ap length (bare-children n) ∙ map-length (out-Node n).children
