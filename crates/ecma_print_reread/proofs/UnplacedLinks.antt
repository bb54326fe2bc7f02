-- Members, calls, templates and parameters without spans.
use Rattle.std.proofs.Common.{◌≡◌, ℕ, ◌==◌, Bool, true, false, List, [], ◌∷◌, map, filter, length, refl, ap, sym, ◌∙◌, if◌then◌else◌}
use Rattle.std.specs.List.{list_any}
use Rattle.std.proofs.lemmas.List.{length-map}
use Rattle.ecma_kind.specs.declared.span.Span.{Span}
use Rattle.ecma_kind.specs.declared.operators.MetaPropKind.TheVariants.{NewTarget}
use Rattle.ecma_kind.specs.declared.kind.Kind.{Kind}
use Rattle.ecma_kind.specs.declared.kind.Kind.TheVariants as kind
use Rattle.ecma_tree.specs.declared.node.Node.{Node}
use Rattle.ecma_tree.specs.Nodes.{node_of, dummy_span}
use Rattle.ecma_tree.specs.Spans.{without_spans}
use Rattle.ecma_grammar.specs.trees.Parts.{kind_of, span_of, children_of, from_to, framed, is_absent, is_present}
use Rattle.ecma_grammar.specs.trees.Chains.{goes_on, Callee, callee_of, member_of, call_of, tagged_of, optional_of, link_by, in_front_link, new_expr, construction, is_text_part, is_substitution, template}
use Rattle.ecma_grammar.specs.trees.Functions.{is_word_kind, has_word, accessibility_of, questioned_kind, questioned_part, annotated_of, annotated_pattern, annotated, end_of, declarator}
use Rattle.ecma_print_readings.proofs.Unplaced.{without_spans-node, kind_same, children_same, span_same, unplacing, if_same, Each, Commutes, framed_same, in_front_same, goes_on_same, linked_same, pair_unplaced, callee_same, member_of_same}

call_of_same : (at : Span) (c : Callee) → Each 3 (Commutes (call_of at c) (call_of dummy_span (pair_unplaced c)))
call_of_same at c x y z = rw goes_on_same (if_same (goes_on c.0) _ _ _ _ (linked_same _ _ (without_spans-node _ _ _)) (without_spans-node _ _ _))

tagged_of_same : (at : Span) (c : Callee) → Each 3 (Commutes (tagged_of at c) (tagged_of dummy_span (pair_unplaced c)))
tagged_of_same at c x y z = without_spans-node _ _ _

optional_of_same : (at : Span) (x : Node) → Each 1 (Commutes (optional_of at x) (optional_of dummy_span (without_spans x)))
optional_of_same at x n = without_spans-node _ _ _ ∙ ap (λ z. node_of dummy_span (kind.OptChainExpr true) (z ∷ [])) (in_front_same x n)

link_by_same : (x n : Node) (k : Kind) → without_spans (link_by x n k) ≡ link_by (without_spans x) (without_spans n) k
link_by_same x n kind.MemberExpr = member_of_same x n (kind_of x) ∙ ap (member_of (without_spans x) (without_spans n)) (sym (kind_same x))
link_by_same x n kind.CallExpr =
    framed_same 3 (call_of (from_to (span_of x).lo (span_of n).hi) (callee_of x)) (call_of dummy_span (pair_unplaced (callee_of x))) (call_of_same _ (callee_of x)) (children_of n)
    ∙ (ap (λ c. framed 3 (call_of dummy_span c) (map without_spans (children_of n))) (callee_same x) ∙ simp (children_same, span_same))
link_by_same x n kind.TaggedTpl =
    framed_same 3 (tagged_of (from_to (span_of x).lo (span_of n).hi) (callee_of x)) (tagged_of dummy_span (pair_unplaced (callee_of x))) (tagged_of_same _ (callee_of x)) (children_of n)
    ∙ (ap (λ c. framed 3 (tagged_of dummy_span c) (map without_spans (children_of n))) (callee_same x) ∙ simp (children_same, span_same))
link_by_same x n (kind.OptChainExpr optional) =
    framed_same 1 (optional_of (from_to (span_of x).lo (span_of n).hi) x) (optional_of dummy_span (without_spans x)) (optional_of_same _ x) (children_of n) ∙ simp (children_same, span_same)
link_by_same x n k = in_front_same x n

pub in_front_link_same : (x n : Node) → without_spans (in_front_link x n) ≡ in_front_link (without_spans x) (without_spans n)
in_front_link_same x n = link_by_same x n (kind_of n) ∙ ap (link_by (without_spans x) (without_spans n)) (sym (kind_same n))

new_expr_same : (at : Span) → Each 3 (Commutes (new_expr at) (new_expr dummy_span))
new_expr_same at x y z = without_spans-node _ _ _

pub construction_same : (at : Span) (xs : List Node) → Commutes (construction at) (construction dummy_span) xs
construction_same at xs =
    let a = node_of dummy_span (kind.MetaPropExpr NewTarget) [] in
    let b = framed 3 (new_expr dummy_span) (map without_spans xs) in
    if_same (length xs == 0) _ (framed 3 (new_expr at) xs) a b (without_spans-node _ _ _) (framed_same 3 (new_expr at) (new_expr dummy_span) (new_expr_same at) xs)
    ∙ ap (λ l. if l == 0 then a else b) (sym (length-map xs without_spans))

filter_same : (p : Node → Bool) → ((n : Node) → p (without_spans n) ≡ p n) → (xs : List Node) → map without_spans (filter p xs) ≡ filter p (map without_spans xs)
filter_same p h [] = refl
filter_same p h (x ∷ xs) = rw h (go (p x) (filter_same p h xs))
  where
    go : (b : Bool) → map without_spans (filter p xs) ≡ filter p (map without_spans xs) → map without_spans (if b then x ∷ filter p xs else filter p xs) ≡ (if b then without_spans x ∷ filter p (map without_spans xs) else filter p (map without_spans xs))
    go true e = ap (λ z. without_spans x ∷ z) e
    go false e = e

pub template_same : (at : Span) (xs : List Node) → Commutes (template at) (template dummy_span) xs
template_same at xs = simp (without_spans-node, filter_same is_substitution (λ n. simp kind_same) xs, filter_same is_text_part (λ n. simp kind_same) xs)

-- modifiers

any_same : (w : List ℕ) (ms : List Node) → list_any (λ m. is_word_kind w (kind_of m)) (map without_spans ms) ≡ list_any (λ m. is_word_kind w (kind_of m)) ms
any_same w [] = refl
any_same w (m ∷ ms) = rw (kind_same, any_same w ms) refl

pub has_word_same : (w : List ℕ) (modifiers : Node) → has_word w (without_spans modifiers) ≡ has_word w modifiers
has_word_same w modifiers = ap (list_any (λ m. is_word_kind w (kind_of m))) (children_same modifiers) ∙ any_same w (children_of modifiers)

pub accessibility_same : (modifiers : Node) → accessibility_of (without_spans modifiers) ≡ accessibility_of modifiers
accessibility_same modifiers = rw (has_word_same, has_word_same, has_word_same) refl

-- patterns and parameters

questioned_part_same : (b : Bool) (k : Kind) (part : Node) → without_spans (questioned_part b k part) ≡ questioned_part b k (without_spans part)
questioned_part_same b kind.BindingIdent part = simp unplacing
questioned_part_same b k part = refl

annotated_of_same : (at : Span) (k : Kind) (b : Bool) (annotation : Node) → Each 2 (Commutes (annotated_of at k b annotation) (annotated_of dummy_span k b (without_spans annotation)))
annotated_of_same at k b annotation part none = without_spans-node _ _ _ ∙ ap (λ z. node_of dummy_span (questioned_kind b k) (z ∷ without_spans annotation ∷ [])) (questioned_part_same b k part)

annotated_pattern_same : (at : Span) (pattern : Node) (b : Bool) (annotation : Node) → without_spans (annotated_pattern at pattern b annotation) ≡ annotated_pattern dummy_span (without_spans pattern) b (without_spans annotation)
annotated_pattern_same at pattern b annotation =
    framed_same 2 (annotated_of at (kind_of pattern) b annotation) (annotated_of dummy_span (kind_of pattern) b (without_spans annotation)) (annotated_of_same at (kind_of pattern) b annotation) (children_of pattern)
    ∙ simp (kind_same, children_same)

pub annotated_same : (at : Span) → Each 3 (Commutes (annotated at) (annotated dummy_span))
annotated_same at pattern question annotation = annotated_pattern_same at pattern (is_present question) annotation ∙ ap (λ k. annotated_pattern dummy_span (without_spans pattern) k (without_spans annotation)) (simp kind_same)

end_of_same : (pattern annotation : Node) → end_of (without_spans pattern) (without_spans annotation) ≡ 0
end_of_same pattern annotation = simp (span_same, kind_same) (go 0 (is_absent annotation))
  where
    go : (z : ℕ) (b : Bool) → (if b then z else z) ≡ z
    go z true = refl
    go z false = refl

pub declarator_same : (at : Span) → Each 4 (Commutes (declarator at) (declarator dummy_span))
declarator_same at p e a v =
    without_spans-node _ _ _ ∙ ap (λ z. node_of dummy_span (kind.VarDeclarator (is_present e)) (z ∷ without_spans v ∷ [])) (annotated_pattern_same _ p false a)
    ∙ rw (end_of_same p a) (simp (span_same, kind_same))
