-- Laws of shapes and sorts.
use Rattle.std.proofs.Common.{◌≡◌, ◌↔◌, ℕ, zero, suc, Bool, true, false, ◌&&◌, ◌||◌, List, [], ◌∷◌, map, length, replicate, Some, None, refl, sym, ap, ap₂, ◌∙◌}
use Rattle.std.specs.List.{All}
use Rattle.std.proofs.lemmas.List.{length-map}
use Rattle.std.proofs.lemmas.List.Elements.{All-nil, All-cons, All-head, All-tail}
use Rattle.ecma_kind.specs.Sorts.{belongs}
use Rattle.ecma_kind.specs.declared.span.Span.{Span}
use Rattle.ecma_kind.specs.declared.kind.Kind.{Kind}
use Rattle.ecma_kind.specs.declared.kind.Kind.TheVariants as kind
use Rattle.ecma_kind.specs.declared.shapes.Shape.{Shape}
use Rattle.ecma_kind.specs.declared.shapes.Sort.{Sort}
use Rattle.ecma_kind.specs.declared.shapes.Sort.TheVariants as sort
use Rattle.ecma_kind.specs.declared.shapes.Count.{Count}
use Rattle.ecma_kind.specs.declared.shapes.Count.TheVariants.{One, Maybe, Many, MaybeMany, Holes}
use Rattle.ecma_tree.specs.Changing.{changed, changed_here}
use Rattle.ecma_tree.specs.Contexts.{kind_with_context, with_contexts}
use Rattle.ecma_tree.specs.Laws.{ChangesKeepShapes, ContextsKeepSorts, HaveShapes, KeepsShapes, ListHasShape, ListWithHolesHasShape, NodeHasShape, NodeHasSort, OptionalChildHasShape, OptionalListHasShape, SpansKeepSorts}
use Rattle.ecma_tree.specs.Nodes.{dummy_span, node_of}
use Rattle.ecma_tree.specs.Sorted.{HasShape, HasSort, all_have_shapes, allows, allows_by, child_shapes, has_shape, has_shape_by, is_absent, many, maybe, maybe_many, one, with_holes}
use Rattle.ecma_tree.specs.Spans.{without_spans}
use Rattle.ecma_tree.specs.declared.node.Node.{Node, Node-F, fold-roll-Node, ind-Node, out-Node, roll-Node}
use Rattle.ecma_tree.proofs.Changing.{nowhere, same}
use Rattle.ecma_tree.proofs.Shaping.{has_shape-parts, shapes_below}

both : (a b : Bool) → (a && b) ≡ true → (a ≡ true) × (b ≡ true)
both true b h = (refl, h)
both false b h = cc

have-from-all : (shapes : List Shape) (nodes : List Node) → all_have_shapes shapes (map has_shape nodes) ≡ true → HaveShapes shapes nodes
have-from-all [] [] h = tt
have-from-all [] (n ∷ ns) h = cc
have-from-all (s ∷ shapes) [] h = cc
have-from-all (s ∷ shapes) (n ∷ ns) h = let t = both (has_shape n s) (all_have_shapes shapes (map has_shape ns)) h in (t.0, have-from-all shapes ns t.1)

all-from-have : (shapes : List Shape) (nodes : List Node) → HaveShapes shapes nodes → all_have_shapes shapes (map has_shape nodes) ≡ true
all-from-have [] [] h = refl
all-from-have [] (n ∷ ns) h = absurd h
all-from-have (s ∷ shapes) [] h = absurd h
all-from-have (s ∷ shapes) (n ∷ ns) h = rw (h.0, all-from-have shapes ns h.1) refl

-- the shape of a node of these parts
has_shape-roll : (x : Node-F Node) (shape : Shape) → has_shape (roll-Node x) shape ≡ (allows shape x.kind && all_have_shapes (child_shapes x.kind shape (length x.children)) (map has_shape x.children))
has_shape-roll x shape =
    ap (λ f. f shape) (fold-roll-Node (Shape → Bool) has_shape_by x)
    ∙ ap (λ k. allows shape x.kind && all_have_shapes (child_shapes x.kind shape k) (map has_shape x.children)) (length-map x.children has_shape)

pub node_has_shape : NodeHasShape
node_has_shape span kind children shape = (
  λ h. (let t = both (allows shape kind) (all_have_shapes (child_shapes kind shape (length children)) (map has_shape children)) (sym is ∙ h) in (t.0, have-from-all (child_shapes kind shape (length children)) children t.1)),
  λ h. is ∙ rw (h.0, all-from-have (child_shapes kind shape (length children)) children h.1) refl,
)
  where
    is : has_shape (node_of span kind children) shape ≡ (allows shape kind && all_have_shapes (child_shapes kind shape (length children)) (map has_shape children))
    is = has_shape-roll (record { span = span; kind = kind; children = children }) shape

pub node_has_sort : NodeHasSort
node_has_sort span kind children sort belongs have = (node_has_shape span kind children (one sort)).1 (belongs, have)

pub ruleset making = (node_has_shape, node_has_sort)

module _ (shape : Shape) where
  -- lists of as many nodes, each of this shape
  each-from-all : (nodes : List Node) → HaveShapes (replicate (length nodes) shape) nodes → All (HasShape shape) nodes
  each-from-all [] h = All-nil (HasShape shape)
  each-from-all (n ∷ ns) h = All-cons (HasShape shape) n ns h.0 (each-from-all ns h.1)

  all-from-each : (nodes : List Node) → All (HasShape shape) nodes → HaveShapes (replicate (length nodes) shape) nodes
  all-from-each [] h = tt
  all-from-each (n ∷ ns) h = (All-head (HasShape shape) n ns h, all-from-each ns (All-tail (HasShape shape) n ns h))

pub list_has_shape : ListHasShape
list_has_shape sort items =
    let is = node_has_shape dummy_span kind.List items (many sort) in (
      λ h. each-from-all (one sort) items (is.0 h).1,
      λ h. is.1 (refl, all-from-each (one sort) items h),
    )

pub list_with_holes_has_shape : ListWithHolesHasShape
list_with_holes_has_shape sort items =
    let is = node_has_shape dummy_span kind.List items (with_holes sort) in (
      λ h. each-from-all (maybe sort) items (is.0 h).1,
      λ h. is.1 (refl, all-from-each (maybe sort) items h),
    )

or-true : (b : Bool) → (b || true) ≡ true
or-true true = refl
or-true false = refl

asked-maybe : (k : Kind) (sort : Sort) (n : ℕ) → child_shapes k (maybe sort) n ≡ child_shapes k (one sort) n
asked-maybe kind.List sort n = refl
asked-maybe kind.SeqExpr sort zero = refl
asked-maybe kind.SeqExpr sort (suc n) = refl
asked-maybe _ sort n = refl

-- what has the shape of one node of a sort has that of a child that may be missing
maybe-from-one : (sort : Sort) (n : Node) → HasSort sort n → HasShape (maybe sort) n
maybe-from-one sort n h =
    let t = both (belongs sort (out-Node n).kind) (all_have_shapes (shapes_below n (one sort)) (map has_shape (out-Node n).children)) (sym (has_shape-parts n (one sort)) ∙ h) in
    has_shape-parts n (maybe sort) ∙ rw (t.0, or-true (is_absent (out-Node n).kind), asked-maybe (out-Node n).kind sort (length (out-Node n).children)) t.1

pub optional_child_has_shape : OptionalChildHasShape
optional_child_has_shape sort None h = (node_has_shape dummy_span kind.Absent [] (maybe sort)).1 (refl, tt)
optional_child_has_shape sort (Some n) h = maybe-from-one sort n h

pub optional_list_has_shape : OptionalListHasShape
optional_list_has_shape sort None h = (node_has_shape dummy_span kind.Absent [] (maybe_many sort)).1 (refl, tt)
optional_list_has_shape sort (Some items) h = (node_has_shape dummy_span kind.List items (maybe_many sort)).1 (refl, all-from-each (one sort) items h)

pub ruleset children = (optional_child_has_shape, list_has_shape, list_with_holes_has_shape, optional_list_has_shape)

module _ (span_to : Span → Span) (kind_to : Kind → Kind) (keeps : KeepsShapes kind_to) where
  all_kept : (ns : List ((n : Node) × (has_shape (changed span_to kind_to n) ≡ has_shape n)))
      → map has_shape (map (changed span_to kind_to) (map (λ e. e.0) ns)) ≡ map has_shape (map (λ e. e.0) ns)
  all_kept [] = refl
  all_kept (n ∷ ns) = ap₂ (λ a rest. a ∷ rest) n.1 (all_kept ns)

  layer_kept : (x : Node-F Node) → map has_shape (map (changed span_to kind_to) x.children) ≡ map has_shape x.children → (shape : Shape)
      → has_shape (changed span_to kind_to (roll-Node x)) shape ≡ has_shape (roll-Node x) shape
  layer_kept x children shape =
      ap (λ n. has_shape n shape) (fold-roll-Node Node (changed_here span_to kind_to) x)
      ∙ has_shape-roll (record { span = span_to x.span; kind = kind_to x.kind; children = map (changed span_to kind_to) x.children }) shape
      ∙ rw (keeps.allowed shape x.kind, length-map x.children (changed span_to kind_to), keeps.asked x.kind shape (length x.children), children) (sym (has_shape-roll x shape))

  shape_kept : (n : Node) → has_shape (changed span_to kind_to n) ≡ has_shape n
  shape_kept = ind-Node (λ n. has_shape (changed span_to kind_to n) ≡ has_shape n) (λ x y is.
      (let children : map has_shape (map (changed span_to kind_to) x.children) ≡ map has_shape x.children =
      ap (λ z. map has_shape (map (changed span_to kind_to) z.children)) (sym is) ∙ all_kept y.children ∙ ap (λ z. map has_shape z.children) is in
      λ i shape. layer_kept x children shape i))

pub changes_keep_shapes : ChangesKeepShapes
changes_keep_shapes span_to kind_to keeps tree shape = ap (λ f. f shape) (shape_kept span_to kind_to keeps tree)

kept_both_ways : (a b : Node) (sort : Sort) → has_shape a (one sort) ≡ has_shape b (one sort) → HasSort sort a ↔ HasSort sort b
kept_both_ways a b sort is = (λ h. sym is ∙ h, λ h. is ∙ h)

same_keeps : KeepsShapes same
same_keeps = record { allowed = λ shape kind. refl; asked = λ kind shape n. refl }

pub spans_keep_sorts : SpansKeepSorts
spans_keep_sorts tree sort = kept_both_ways (without_spans tree) tree sort (changes_keep_shapes nowhere same same_keeps tree (one sort))

-- the context of an identifier is nothing to its sorts
belongs-ident : (sort : Sort) (sym : List ℕ) (ctxt other : ℕ) (optional : Bool) → belongs sort (kind.Ident sym ctxt optional) ≡ belongs sort (kind.Ident sym other optional)
belongs-ident sort.Program sym ctxt other optional = refl
belongs-ident _ sym ctxt other optional = refl

allows-ident : (count : Count) (sort : Sort) (sym : List ℕ) (ctxt other : ℕ) (optional : Bool) → allows_by count sort (kind.Ident sym ctxt optional) ≡ allows_by count sort (kind.Ident sym other optional)
allows-ident One sort sym ctxt other optional = belongs-ident sort sym ctxt other optional
allows-ident Maybe sort sym ctxt other optional = belongs-ident sort sym ctxt other optional
allows-ident Many sort sym ctxt other optional = refl
allows-ident MaybeMany sort sym ctxt other optional = refl
allows-ident Holes sort sym ctxt other optional = refl

module _ (context_of : List ℕ → ℕ → ℕ) where
  allowed_with_context : (shape : Shape) (k : Kind) → allows shape (kind_with_context context_of k) ≡ allows shape k
  allowed_with_context shape (kind.Ident sym ctxt optional) = allows-ident shape.count shape.sort sym (context_of sym ctxt) ctxt optional
  allowed_with_context shape _ = refl

  asked_with_context : (k : Kind) (shape : Shape) (n : ℕ) → child_shapes (kind_with_context context_of k) shape n ≡ child_shapes k shape n
  asked_with_context (kind.Ident sym ctxt optional) shape n = refl
  asked_with_context _ shape n = refl

pub contexts_keep_sorts : ContextsKeepSorts
contexts_keep_sorts context_of tree sort =
    let keeps : KeepsShapes (kind_with_context context_of) = record { allowed = allowed_with_context context_of; asked = asked_with_context context_of } in
    kept_both_ways (with_contexts context_of tree) tree sort (changes_keep_shapes (λ span. span) (kind_with_context context_of) keeps tree (one sort))
