-- Nodes with some of what was read, with the last two exchanged, or with none; lists and sequences.
use Rattle.std.proofs.Common.{◌≡◌, ℕ, zero, suc, ◌-◌, Bool, true, false, ◌&&◌, cond, List, [], ◌∷◌, take, length, replicate, slice_get, nat_eq, refl, arith, sym, ap, ◌∙◌, subst}
use Rattle.ecma_kind.specs.declared.span.Span.{Span}
use Rattle.ecma_kind.specs.declared.kind.Kind.{Kind}
use Rattle.ecma_kind.specs.declared.kind.Kind.TheVariants as kind
use Rattle.ecma_kind.specs.declared.shapes.Sort.TheVariants as sort
use Rattle.ecma_tree.specs.Nodes.{node_of, list_node, dummy_span}
use Rattle.ecma_tree.specs.declared.node.Node.{Node}
use Rattle.ecma_grammar.specs.declared.production.Plain.{Plain}
use Rattle.ecma_grammar.specs.declared.production.Plain.TheVariants as plain
use Rattle.ecma_grammar.specs.trees.Plain.{plain_kind}
use Rattle.ecma_grammar.specs.trees.Others.{swapped, missing, elements, sequence}
use Rattle.ecma_grammar_laws.specs.RawSorts.{RawShape, HasRawSort, allows_raw, child_shapes_raw, item_shape, sorted, one}
use Rattle.ecma_grammar_laws.proofs.RawShapes.{HaveRaw, both, node_has}
use Rattle.ecma_grammar_laws.proofs.Asks.{Ask, any, shape, expression, Meets, Each, Asked, these, each, first_and_each, Given, fits}
use Rattle.ecma_grammar_laws.proofs.Needs.{shapes, is_empty, is_type, is_declared_type, bare_kind_needs, bare_needs, first_of, first_kind_needs, first_needs, swapped_asked, node_needs, list_needs, if_so}
use Rattle.ecma_grammar_laws.proofs.Fits.{no}
use Rattle.ecma_grammar_laws.proofs.forms.Making.{given_so, made_sorted, as_sort}
use Rattle.ecma_grammar_laws.proofs.forms.Nodes.{node_made}

-- the last two exchanged

swapped_given : (q : Asked) (xs : List Node) → Given (swapped_asked q) xs → Given q (swapped xs)
swapped_given (these (p ∷ q ∷ [])) [] m = absurd m
swapped_given (these (p ∷ q ∷ [])) (x ∷ []) m = absurd m.1
swapped_given (these (p ∷ q ∷ [])) (x ∷ y ∷ []) m = (m.1.0, (m.0, tt))
swapped_given (these (p ∷ q ∷ [])) (x ∷ y ∷ z ∷ zs) m = absurd m.1.1
swapped_given (these (p ∷ q ∷ r ∷ [])) [] m = absurd m
swapped_given (these (p ∷ q ∷ r ∷ [])) (x ∷ []) m = absurd m.1
swapped_given (these (p ∷ q ∷ r ∷ [])) (x ∷ y ∷ []) m = absurd m.1.1
swapped_given (these (p ∷ q ∷ r ∷ [])) (x ∷ y ∷ z ∷ []) m = (m.0, (m.1.1.0, (m.1.0, tt)))
swapped_given (these (p ∷ q ∷ r ∷ [])) (x ∷ y ∷ z ∷ w ∷ ws) m = absurd m.1.1.1
swapped_given _ xs m = absurd m

pub swapped_made : (p : Plain) (q : Ask) (span : Span) (xs : List Node) → Given (swapped_asked (node_needs p q)) xs → Meets q (node_of span (plain_kind p) (swapped xs))
swapped_made p q span xs g = node_made p q span (swapped xs) (swapped_given (node_needs p q) xs g)

-- none, and the first

none_have : (ss : List RawShape) → is_empty ss ≡ true → HaveRaw ss []
none_have [] h = tt
none_have (s ∷ ss) h = no h

empty_fixed : (k : Kind) (s : RawShape) → child_shapes_raw k s (length (shapes k)) ≡ shapes k → is_empty (shapes k) ≡ true → child_shapes_raw k s 0 ≡ shapes k
empty_fixed k s e h = go (shapes k) refl h
  where
    go : (ss : List RawShape) → shapes k ≡ ss → is_empty ss ≡ true → child_shapes_raw k s 0 ≡ shapes k
    go [] f g = ap (λ ss. child_shapes_raw k s (length ss)) (sym f) ∙ e
    go (s0 ∷ ss) f g = no g

bare_kind_made : (k : Kind) → ((s : RawShape) → child_shapes_raw k s (length (shapes k)) ≡ shapes k) → (q : Ask) (span : Span) (xs : List Node) → Given (bare_kind_needs k q) xs → Meets q (node_of span k [])
bare_kind_made k e any span xs g = tt
bare_kind_made k e (shape s) span xs g =
    let t = given_so _ _ xs g in
    let w = both (allows_raw s k) (is_empty (shapes k)) (both (is_type k) (allows_raw s k && is_empty (shapes k)) t.0).1 in
    node_has span k [] s w.0 (subst (λ ss. HaveRaw ss []) (sym (empty_fixed k s (e s) w.1)) (none_have (shapes k) w.1))
bare_kind_made k e _ span xs g = absurd g

pub bare_made : (p : Plain) (q : Ask) (span : Span) (xs : List Node) → Given (bare_needs p q) xs → Meets q (node_of span (plain_kind p) [])
bare_made plain.SeqExpr q span xs g = absurd g
bare_made p q span xs g = bare_kind_made (plain_kind p) (λ s. refl) q span xs g

first_have : (k : Kind) (s : RawShape) (ss : List RawShape) → shapes k ≡ ss → child_shapes_raw k s (length (shapes k)) ≡ shapes k → (xs : List Node) → Given (first_of ss) xs → HaveRaw (child_shapes_raw k s (length (take 1 xs))) (take 1 xs)
first_have k s [] e f xs g = absurd g
first_have k s (s0 ∷ []) e f [] g = absurd g
first_have k s (s0 ∷ []) e f (x ∷ xs) g = subst (λ ss. HaveRaw ss (x ∷ [])) (sym (ap (λ l. child_shapes_raw k s (length l)) (sym e) ∙ f ∙ e)) (g.0, tt)
first_have k s (s0 ∷ s1 ∷ ss) e f xs g = absurd g

first_kind_made : (k : Kind) → ((s : RawShape) → child_shapes_raw k s (length (shapes k)) ≡ shapes k) → (q : Ask) (span : Span) (xs : List Node) → Given (first_kind_needs k q) xs → Meets q (node_of span k (take 1 xs))
first_kind_made k e any span xs g = tt
first_kind_made k e (shape s) span xs g = let t = given_so _ _ xs g in let w = both (is_declared_type k) (allows_raw s k) t.0 in node_has span k (take 1 xs) s w.1 (first_have k s (shapes k) refl (e s) xs t.1)
first_kind_made k e _ span xs g = absurd g

pub first_made : (p : Plain) (q : Ask) (span : Span) (xs : List Node) → Given (first_needs p q) xs → Meets q (node_of span (plain_kind p) (take 1 xs))
first_made plain.SeqExpr q span xs g = absurd g
first_made p q span xs g = first_kind_made (plain_kind p) (λ s. refl) q span xs g

-- lists

each_have : (s : RawShape) (xs : List Node) → Each (shape s) xs → HaveRaw (replicate (length xs) s) xs
each_have s [] m = tt
each_have s (x ∷ xs) m = (m.0, each_have s xs m.1)

pub list_made : (q : Ask) (xs : List Node) → Given (list_needs q) xs → Meets q (list_node xs)
list_made any xs g = tt
list_made (shape s) xs g = let t = given_so _ _ xs g in node_has dummy_span kind.List xs s t.0 (each_have (item_shape s) xs t.1)
list_made _ xs g = absurd g

each_front : (q : Ask) (n : ℕ) (xs : List Node) → Each q xs → Each q (take n xs)
each_front q zero xs m = tt
each_front q (suc n) [] m = tt
each_front q (suc n) (x ∷ xs) m = (m.0, each_front q n xs m.1)

elements_given : (q : Ask) (xs : List Node) → Given (list_needs q) xs → Given (list_needs q) (elements xs)
elements_given any xs g = tt
elements_given (shape s) xs g = go (allows_raw s kind.List) (missing (slice_get xs (length xs - 1))) g
  where
    go : (b c : Bool) → Given (if_so b (each (shape (item_shape s)))) xs → Given (if_so b (each (shape (item_shape s)))) (cond c (take (length xs - 1) xs) xs)
    go true true m = each_front (shape (item_shape s)) (length xs - 1) xs m
    go true false m = m
    go false c m = absurd m
elements_given _ xs g = absurd g

pub elements_made : (q : Ask) (xs : List Node) → Given (list_needs q) xs → Meets q (list_node (elements xs))
elements_made q xs g = list_made q (elements xs) (elements_given q xs g)

-- sequences

sequence_sorted : (span : Span) (xs : List Node) → Given (first_and_each expression expression) xs → HasRawSort sort.Expr (sequence span xs)
sequence_sorted span [] g = absurd g
sequence_sorted span (x ∷ []) g = g.0
sequence_sorted span (x ∷ y ∷ zs) g =
    let more : nat_eq (length (x ∷ y ∷ zs)) 1 ≡ false = grind arith in
    rw more (made_sorted sort.Expr span kind.SeqExpr (x ∷ y ∷ zs) refl (each_have (one (sorted sort.Expr)) (x ∷ y ∷ zs) g))

pub sequence_made : (q : Ask) (span : Span) (xs : List Node) → Given (if_so (fits expression q) (first_and_each expression expression)) xs → Meets q (sequence span xs)
sequence_made q span xs g = let t = given_so _ _ xs g in as_sort sort.Expr q (sequence span xs) t.0 (sequence_sorted span xs t.1)
