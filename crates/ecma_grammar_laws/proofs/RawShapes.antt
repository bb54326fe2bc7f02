-- Laws of raw shapes: what makes a node of a shape, and what its children are.
use Rattle.std.proofs.Common.{◌≡◌, Bool, true, false, ◌&&◌, List, [], ◌∷◌, map, length, refl, sym, ap, ◌∙◌, subst, slice_set}
use Rattle.std.proofs.lemmas.List.{length-map}
use Rattle.ecma_kind.specs.declared.span.Span.{Span}
use Rattle.ecma_kind.specs.declared.kind.Kind.{Kind}
use Rattle.ecma_tree.specs.Nodes.{node_of}
use Rattle.ecma_tree.specs.declared.node.Node.{Node, fold_out-Node}
use Rattle.ecma_tree.specs.declared.node.Node.TheViews.{out-roll-Node}
use Rattle.ecma_grammar.specs.trees.Parts.{kind_of, span_of, children_of, from_to, in_front}
use Rattle.ecma_grammar_laws.specs.RawSorts.{RawShape, HasRawShape, all_have_shapes, allows_raw, child_shapes_raw, has_raw_shape, has_raw_shape_by}

pub both : (a b : Bool) → (a && b) ≡ true → (a ≡ true) × (b ≡ true)
both true b h = (refl, h)
both false b h = cc

-- nodes that have these shapes, one each
abbrev pub HaveRaw : List RawShape → List Node → Type 0
HaveRaw [] [] = Unit
HaveRaw (shape ∷ shapes) (node ∷ nodes) = HasRawShape shape node × HaveRaw shapes nodes
HaveRaw _ _ = ⊥

have-from-all : (shapes : List RawShape) (nodes : List Node) → all_have_shapes shapes (map has_raw_shape nodes) ≡ true → HaveRaw shapes nodes
have-from-all [] [] h = tt
have-from-all [] (n ∷ ns) h = cc
have-from-all (s ∷ shapes) [] h = cc
have-from-all (s ∷ shapes) (n ∷ ns) h = let t = both (has_raw_shape n s) (all_have_shapes shapes (map has_raw_shape ns)) h in (t.0, have-from-all shapes ns t.1)

all-from-have : (shapes : List RawShape) (nodes : List Node) → HaveRaw shapes nodes → all_have_shapes shapes (map has_raw_shape nodes) ≡ true
all-from-have [] [] h = refl
all-from-have [] (n ∷ ns) h = absurd h
all-from-have (s ∷ shapes) [] h = absurd h
all-from-have (s ∷ shapes) (n ∷ ns) h = rw (h.0, all-from-have shapes ns h.1) refl

-- the shapes of a node's children
abbrev pub below : Node → RawShape → List RawShape
below n shape = child_shapes_raw (kind_of n) shape (length (children_of n))

has_raw_shape-parts : (n : Node) (shape : RawShape) → has_raw_shape n shape ≡ (allows_raw shape (kind_of n) && all_have_shapes (below n shape) (map has_raw_shape (children_of n)))
has_raw_shape-parts n shape =
    ap (λ f. f shape) (fold_out-Node (RawShape → Bool) has_raw_shape_by n)
    ∙ ap (λ k. allows_raw shape (kind_of n) && all_have_shapes (child_shapes_raw (kind_of n) shape k) (map has_raw_shape (children_of n))) (length-map (children_of n) has_raw_shape)

-- what a node of a shape is, and how one is made
pub parts_of : (n : Node) (shape : RawShape) → HasRawShape shape n → (allows_raw shape (kind_of n) ≡ true) × HaveRaw (below n shape) (children_of n)
parts_of n shape h =
    let t = both (allows_raw shape (kind_of n)) (all_have_shapes (below n shape) (map has_raw_shape (children_of n))) (sym (has_raw_shape-parts n shape) ∙ h) in
    (t.0, have-from-all (below n shape) (children_of n) t.1)

pub from_parts : (n : Node) (shape : RawShape) → allows_raw shape (kind_of n) ≡ true → HaveRaw (below n shape) (children_of n) → HasRawShape shape n
from_parts n shape a h = has_raw_shape-parts n shape ∙ rw (a, all-from-have (below n shape) (children_of n) h) refl

pub kind_is : (span : Span) (k : Kind) (xs : List Node) → kind_of (node_of span k xs) ≡ k
kind_is span k xs = ap (λ p. p.kind) (out-roll-Node (record { span = span; kind = k; children = xs }))

pub children_are : (span : Span) (k : Kind) (xs : List Node) → children_of (node_of span k xs) ≡ xs
children_are span k xs = ap (λ p. p.children) (out-roll-Node (record { span = span; kind = k; children = xs }))

pub node_has : (span : Span) (k : Kind) (xs : List Node) (shape : RawShape) → allows_raw shape k ≡ true → HaveRaw (child_shapes_raw k shape (length xs)) xs → HasRawShape shape (node_of span k xs)
node_has span k xs shape a h =
    let is = out-roll-Node (record { span = span; kind = k; children = xs }) in
    from_parts (node_of span k xs) shape (ap (λ p. allows_raw shape p.kind) is ∙ a) (subst (λ p. HaveRaw (child_shapes_raw p.kind shape (length p.children)) p.children) (sym is) h)

-- what stands in front of a node of these parts
pub in_front_is : (x : Node) (span : Span) (k : Kind) (xs : List Node) → in_front x (node_of span k xs) ≡ node_of (from_to (span_of x).lo span.hi) k (slice_set xs 0 x)
in_front_is x span k xs = ap (λ p. node_of (from_to (span_of x).lo p.span.hi) p.kind (slice_set p.children 0 x)) (out-roll-Node (record { span = span; kind = k; children = xs }))

set_first : (c x : Node) (xs : List Node) → slice_set (c ∷ xs) 0 x ≡ x ∷ xs
set_first c x xs = refl
