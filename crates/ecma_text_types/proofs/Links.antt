-- Members, calls, templates, modifiers and patterns without what their types hold.
use Rattle.std.proofs.Common.{◌≡◌, ◌∙◌, ℕ, ◌==◌, Bool, true, false, List, [], ◌∷◌, map, filter, length, not, refl, sym, ap, ap₂, codes, slice_set, if◌then◌else◌}
use Rattle.std.specs.List.{list_any}
use Rattle.std.proofs.lemmas.List.{length-map}
use Rattle.ecma_kind.specs.declared.span.Span.{Span}
use Rattle.ecma_kind.specs.declared.operators.MetaPropKind.TheVariants.{NewTarget}
use Rattle.ecma_kind.specs.declared.kind.Kind.{Kind}
use Rattle.ecma_kind.specs.declared.kind.Kind.TheVariants as kind
use Rattle.ecma_tree.specs.Nodes.{list_node, node_of}
use Rattle.ecma_tree.specs.declared.node.Node.{Node}
use Rattle.ecma_grammar.specs.trees.Parts.{children_of, framed, from_to, in_front, is_absent, is_absent_kind, is_present, kind_of, span_of}
use Rattle.ecma_grammar.specs.trees.Chains.{Callee, call_of, callee_of, construction, goes_on, in_front_link, is_substitution, is_text_kind, is_text_part, link_by, linked, member_of, new_expr, optional_of, tagged_of, template}
use Rattle.ecma_grammar.specs.trees.Functions.{accessibility_of, annotated, annotated_of, annotated_pattern, declarator, end_of, has_word, is_word_kind, questioned, questioned_kind, questioned_part}
use Rattle.ecma_rules.specs.Baring.{bared, holds_types, own_children}
use Rattle.ecma_text_types.proofs.Bared.{Mapped, MappedAs, bared-kind, bared-node, bared-own, mapped}
use Rattle.ecma_text_types.proofs.Makings.{Commutes, Each, Steps, bared-present, bared-span, callee-bared, framed_same, free-node, goes-bared, if_bared, in_front-bared, linked-bared, pair_bared, set-first, spans-same}

-- members and calls

linked-in-front : (x n : Node) → bared (if goes_on x then linked (in_front x n) else in_front x n) ≡ (if goes_on (bared x) then linked (in_front (bared x) (bared n)) else in_front (bared x) (bared n))
linked-in-front x n =
    if_bared (goes_on x) (linked (in_front x n)) (in_front x n) (linked (in_front (bared x) (bared n))) (in_front (bared x) (bared n))
    (linked-bared (in_front x n) (in_front (bared x) (bared n)) (in_front-bared x n)) (in_front-bared x n)
    ∙ ap (λ b. if b then linked (in_front (bared x) (bared n)) else in_front (bared x) (bared n)) (sym (goes-bared x))

member-by : (x n : Node) (k : Kind) → Mapped n → bared (member_of x n k) ≡ member_of (bared x) (bared n) k
member-by x n kind.Super m =
    bared-node (from_to (span_of x).lo (span_of n).hi) kind.SuperPropExpr (slice_set (children_of n) 0 x)
    ∙ ap (node_of (from_to (span_of x).lo (span_of n).hi) kind.SuperPropExpr) (set-first (children_of n) x ∙ ap (λ (cs : List Node). slice_set cs 0 (bared x)) (sym m))
    ∙ ap (λ (s : Span). node_of s kind.SuperPropExpr (slice_set (children_of (bared n)) 0 (bared x))) (spans-same x n)
member-by x n k m = linked-in-front x n

call-same : (at : Span) (c : Callee) → Each 3 (Commutes (call_of at c) (call_of at (pair_bared c)))
call-same at c none args types =
    if_bared (goes_on c.0) (linked (node_of at kind.OptCall (c.0 ∷ args ∷ c.1 ∷ []))) (node_of at kind.CallExpr (c.0 ∷ args ∷ c.1 ∷ []))
    (linked (node_of at kind.OptCall (bared c.0 ∷ bared args ∷ bared c.1 ∷ []))) (node_of at kind.CallExpr (bared c.0 ∷ bared args ∷ bared c.1 ∷ []))
    (linked-bared (node_of at kind.OptCall (c.0 ∷ args ∷ c.1 ∷ [])) (node_of at kind.OptCall (bared c.0 ∷ bared args ∷ bared c.1 ∷ [])) (bared-node at kind.OptCall (c.0 ∷ args ∷ c.1 ∷ [])))
    (bared-node at kind.CallExpr (c.0 ∷ args ∷ c.1 ∷ []))
    ∙ ap (λ b. if b then linked (node_of at kind.OptCall (bared c.0 ∷ bared args ∷ bared c.1 ∷ [])) else node_of at kind.CallExpr (bared c.0 ∷ bared args ∷ bared c.1 ∷ [])) (sym (goes-bared c.0))

tagged-same : (at : Span) (c : Callee) → Each 3 (Commutes (tagged_of at c) (tagged_of at (pair_bared c)))
tagged-same at c none types template = bared-node at kind.TaggedTpl (c.0 ∷ c.1 ∷ template ∷ [])

optional-same : (at : Span) (x : Node) → Each 1 (Commutes (optional_of at x) (optional_of at (bared x)))
optional-same at x n = bared-node at (kind.OptChainExpr true) (in_front x n ∷ []) ∙ ap (λ z. node_of at (kind.OptChainExpr true) (z ∷ [])) (in_front-bared x n)

link-by : (x n : Node) (k : Kind) → MappedAs k n → bared (link_by x n k) ≡ link_by (bared x) (bared n) k
link-by x n kind.MemberExpr m = member-by x n (kind_of x) (m refl) ∙ ap (member_of (bared x) (bared n)) (sym (bared-kind x))
link-by x n kind.CallExpr m =
    let at = from_to (span_of x).lo (span_of n).hi in
    framed_same 3 (call_of at (callee_of x)) (call_of at (pair_bared (callee_of x))) (call-same at (callee_of x)) (children_of n)
    ∙ ap₂ (λ (c : Callee) (cs : List Node). framed 3 (call_of at c) cs) (callee-bared x) (sym (m refl))
    ∙ ap (λ (s : Span). framed 3 (call_of s (callee_of (bared x))) (children_of (bared n))) (spans-same x n)
link-by x n kind.TaggedTpl m =
    let at = from_to (span_of x).lo (span_of n).hi in
    framed_same 3 (tagged_of at (callee_of x)) (tagged_of at (pair_bared (callee_of x))) (tagged-same at (callee_of x)) (children_of n)
    ∙ ap₂ (λ (c : Callee) (cs : List Node). framed 3 (tagged_of at c) cs) (callee-bared x) (sym (m refl))
    ∙ ap (λ (s : Span). framed 3 (tagged_of s (callee_of (bared x))) (children_of (bared n))) (spans-same x n)
link-by x n (kind.OptChainExpr optional) m =
    let at = from_to (span_of x).lo (span_of n).hi in
    framed_same 1 (optional_of at x) (optional_of at (bared x)) (optional-same at x) (children_of n)
    ∙ ap₂ (λ (s : Span) (cs : List Node). framed 1 (optional_of s (bared x)) cs) (spans-same x n) (sym (m refl))
link-by x n k m = in_front-bared x n

pub in_front_link-bared : Steps in_front_link
in_front_link-bared x n = link-by x n (kind_of n) (mapped n) ∙ ap (link_by (bared x) (bared n)) (sym (bared-kind n))

new-same : (at : Span) → Each 3 (Commutes (new_expr at) (new_expr at))
new-same at callee types args = bared-node at kind.NewExpr (callee ∷ args ∷ types ∷ [])

pub construction-bared : (at : Span) (xs : List Node) → Commutes (construction at) (construction at) xs
construction-bared at xs =
    let a = node_of at (kind.MetaPropExpr NewTarget) [] in
    let b = framed 3 (new_expr at) (map bared xs) in
    if_bared (length xs == 0) a (framed 3 (new_expr at) xs) a b (bared-node at (kind.MetaPropExpr NewTarget) []) (framed_same 3 (new_expr at) (new_expr at) (new-same at) xs)
    ∙ ap (λ l. if l == 0 then a else b) (sym (length-map xs bared))

filter-bared : (p : Node → Bool) → ((n : Node) → p (bared n) ≡ p n) → (xs : List Node) → map bared (filter p xs) ≡ filter p (map bared xs)
filter-bared p h [] = refl
filter-bared p h (x ∷ xs) = rw h (go (p x) (filter-bared p h xs))
  where
    go : (b : Bool) → map bared (filter p xs) ≡ filter p (map bared xs) → map bared (if b then x ∷ filter p xs else filter p xs) ≡ (if b then bared x ∷ filter p (map bared xs) else filter p (map bared xs))
    go true e = ap (λ z. bared x ∷ z) e
    go false e = e

pub list-bared : (xs : List Node) → bared (list_node xs) ≡ list_node (map bared xs)
list-bared xs = bared-node _ kind.List xs

pub template-bared : (at : Span) (xs : List Node) → Commutes (template at) (template at) xs
template-bared at xs =
    bared-node at kind.Tpl (list_node (filter is_substitution xs) ∷ list_node (filter is_text_part xs) ∷ [])
    ∙ ap₂ (λ (a b : Node). node_of at kind.Tpl (a ∷ b ∷ []))
    (list-bared (filter is_substitution xs) ∙ ap list_node (filter-bared is_substitution (λ n. ap (λ k. not (is_text_kind k)) (bared-kind n)) xs))
    (list-bared (filter is_text_part xs) ∙ ap list_node (filter-bared is_text_part (λ n. ap is_text_kind (bared-kind n)) xs))

-- modifiers

any-word : (w : List ℕ) (ms : List Node) → list_any (λ m. is_word_kind w (kind_of m)) (map bared ms) ≡ list_any (λ m. is_word_kind w (kind_of m)) ms
any-word w [] = refl
any-word w (m ∷ ms) = rw (bared-kind m, any-word w ms) refl

pub word-bared : (modifiers : Node) → Mapped modifiers → (w : List ℕ) → has_word w (bared modifiers) ≡ has_word w modifiers
word-bared modifiers m w = ap (list_any (λ m. is_word_kind w (kind_of m))) m ∙ any-word w (children_of modifiers)

pub accessibility-bared : (modifiers : Node) → Mapped modifiers → accessibility_of (bared modifiers) ≡ accessibility_of modifiers
accessibility-bared modifiers m = rw (word-bared modifiers m (codes "public"), word-bared modifiers m (codes "protected"), word-bared modifiers m (codes "private")) refl

-- patterns

questioned-own : (b : Bool) (k : Kind) (cs : List Node) → own_children (questioned_kind b k) cs ≡ own_children k cs
questioned-own b (kind.Ident sym ctxt before) cs = refl
questioned-own b (kind.ArrayPat before) cs = refl
questioned-own b (kind.ObjectPat before) cs = refl
questioned-own b k cs = refl

questioned-bared : (b : Bool) (n : Node) → bared (questioned b n) ≡ questioned b (bared n)
questioned-bared b n =
    bared-node (span_of n) (questioned_kind b (kind_of n)) (children_of n)
    ∙ ap (node_of (span_of n) (questioned_kind b (kind_of n))) (questioned-own b (kind_of n) (map bared (children_of n)) ∙ sym (bared-own n))
    ∙ ap₂ (λ (s : Span) k. node_of s (questioned_kind b k) (children_of (bared n))) (sym (bared-span n)) (sym (bared-kind n))

part-bared : (b : Bool) (k : Kind) (part : Node) → bared (questioned_part b k part) ≡ questioned_part b k (bared part)
part-bared b kind.BindingIdent part = questioned-bared b part
part-bared b k part = refl

questioned-free : (b : Bool) (k : Kind) → holds_types k ≡ false → holds_types (questioned_kind b k) ≡ false
questioned-free b (kind.Ident sym ctxt before) h = refl
questioned-free b (kind.ArrayPat before) h = refl
questioned-free b (kind.ObjectPat before) h = refl
questioned-free b k h = h

annotated-of : (at : Span) (k : Kind) (b : Bool) (annotation : Node) → holds_types k ≡ false → Each 2 (Commutes (annotated_of at k b annotation) (annotated_of at k b (bared annotation)))
annotated-of at k b annotation free part none =
    free-node at (questioned_kind b k) (questioned_part b k part ∷ annotation ∷ []) (questioned-free b k free)
    ∙ ap (λ z. node_of at (questioned_kind b k) (z ∷ bared annotation ∷ [])) (part-bared b k part)

-- a kind that holds no types
abbrev pub Free : Node → Type 0
Free n = holds_types (kind_of n) ≡ false

annotated-pattern : (at : Span) (pattern : Node) (b : Bool) (annotation : Node) → Free pattern → bared (annotated_pattern at pattern b annotation) ≡ annotated_pattern at (bared pattern) b (bared annotation)
annotated-pattern at pattern b annotation free =
    framed_same 2 (annotated_of at (kind_of pattern) b annotation) (annotated_of at (kind_of pattern) b (bared annotation)) (annotated-of at (kind_of pattern) b annotation free) (children_of pattern)
    ∙ ap₂ (λ k (cs : List Node). framed 2 (annotated_of at k b (bared annotation)) cs) (sym (bared-kind pattern)) (sym (mapped pattern free))

pub annotated-bared : (at : Span) (pattern question annotation : Node) → Free pattern → Commutes (annotated at) (annotated at) (pattern ∷ question ∷ annotation ∷ [])
annotated-bared at pattern question annotation free =
    annotated-pattern at pattern (is_present question) annotation free
    ∙ ap (λ b. annotated_pattern at (bared pattern) b (bared annotation)) (sym (bared-present question))

end-bared : (pattern annotation : Node) → end_of (bared pattern) (bared annotation) ≡ end_of pattern annotation
end-bared pattern annotation =
    ap (λ k. if is_absent_kind k then (span_of (bared pattern)).hi else (span_of (bared annotation)).hi) (bared-kind annotation)
    ∙ ap₂ (λ (s t : Span). if is_absent annotation then s.hi else t.hi) (bared-span pattern) (bared-span annotation)

pub declarator-bared : (at : Span) (pattern exclamation annotation value : Node) → Free pattern → Commutes (declarator at) (declarator at) (pattern ∷ exclamation ∷ annotation ∷ value ∷ [])
declarator-bared at pattern exclamation annotation value free =
    let name = from_to (span_of pattern).lo (end_of pattern annotation) in
    bared-node at (kind.VarDeclarator (is_present exclamation)) (annotated_pattern name pattern false annotation ∷ value ∷ [])
    ∙ ap (λ z. node_of at (kind.VarDeclarator (is_present exclamation)) (z ∷ bared value ∷ [])) (annotated-pattern name pattern false annotation free)
    ∙ ap (λ (s : Span). node_of at (kind.VarDeclarator (is_present exclamation)) (annotated_pattern s (bared pattern) false (bared annotation) ∷ bared value ∷ []))
    (ap₂ (λ (s : Span) hi. from_to s.lo hi) (sym (bared-span pattern)) (sym (end-bared pattern annotation)))
    ∙ ap (λ b. node_of at (kind.VarDeclarator b) (annotated_pattern (from_to (span_of (bared pattern)).lo (end_of (bared pattern) (bared annotation))) (bared pattern) false (bared annotation) ∷ bared value ∷ [])) (sym (bared-present exclamation))
