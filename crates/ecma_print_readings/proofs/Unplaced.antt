-- What a form makes of nodes without spans is what it makes of those nodes, without spans.
use Rattle.std.proofs.Common.{◌≡◌, ℕ, zero, suc, ap₂, arith, ◌==◌, Bool, true, false, ◌&&◌, List, [], ◌∷◌, map, length, refl, ap, sym, ◌∙◌, Option, Some, None, unwrap_or, if◌then◌else◌}
use Rattle.std.proofs.lemmas.List.{length-map, map-set}
use Rattle.ecma_kind.specs.declared.span.Span.{Span}
use Rattle.ecma_kind.specs.declared.kind.Kind.{Kind}
use Rattle.ecma_kind.specs.declared.kind.Kind.TheVariants as kind
use Rattle.ecma_tree.specs.declared.node.Node.{Node, fold_out-Node, ind-Node, fold-roll-Node}
use Rattle.ecma_tree.specs.declared.node.Node.TheViews.{out-roll-Node}
use Rattle.ecma_tree.specs.Nodes.{node_of, dummy_span, absent}
use Rattle.ecma_tree.specs.Spans.{without_spans, unplaced}
use Rattle.ecma_grammar.specs.trees.Parts.{kind_of, span_of, children_of, from_to, in_front, frame, by_frame, framed}
use Rattle.ecma_grammar.specs.trees.Chains.{steps, all_steps, is_and, is_or, right_in_front, in_front_logical, goes_on, goes_on_step, goes_on_by, linked, Callee, instantiated, callee_by, callee_of, member_of}

pub without_spans-node : (at : Span) (kind : Kind) (children : List Node) → without_spans (node_of at kind children) ≡ node_of dummy_span kind (map without_spans children)
without_spans-node at kind children =
    fold_out-Node Node unplaced (node_of at kind children) ∙ ap (λ p. node_of dummy_span p.kind (map without_spans p.children)) (out-roll-Node (record { span = at; kind = kind; children = children }))

spanless : (n : Node) → without_spans n ≡ node_of dummy_span (kind_of n) (map without_spans (children_of n))
spanless n = fold_out-Node Node unplaced n

pub kind_same : (n : Node) → kind_of (without_spans n) ≡ kind_of n
kind_same n = ap kind_of (spanless n) ∙ ap (λ p. p.kind) (out-roll-Node (record { span = dummy_span; kind = kind_of n; children = map without_spans (children_of n) }))

pub children_same : (n : Node) → children_of (without_spans n) ≡ map without_spans (children_of n)
children_same n = ap children_of (spanless n) ∙ ap (λ p. p.children) (out-roll-Node (record { span = dummy_span; kind = kind_of n; children = map without_spans (children_of n) }))

pub span_same : (n : Node) → span_of (without_spans n) ≡ dummy_span
span_same n = ap span_of (spanless n) ∙ ap (λ p. p.span) (out-roll-Node (record { span = dummy_span; kind = kind_of n; children = map without_spans (children_of n) }))

pub absent_same : without_spans absent ≡ absent
absent_same = without_spans-node _ _ []

pub ruleset unplacing = (without_spans-node, kind_same, children_same, span_same)

pub if_same : (b : Bool) (n m n' m' : Node) → without_spans n ≡ n' → without_spans m ≡ m' → without_spans (if b then n else m) ≡ (if b then n' else m')
if_same true n m n' m' h k = h
if_same false n m n' m' h k = k

pub map_if : (b : Bool) (xs ys : List Node) → map without_spans (if b then xs else ys) ≡ (if b then map without_spans xs else map without_spans ys)
map_if true xs ys = refl
map_if false xs ys = refl

-- a list of so many nodes is given by them
abbrev pub Each : ℕ → (List Node → Type 0) → Type 0
Each zero P = P []
Each (suc n) P = (x : Node) → Each n (λ xs. P (x ∷ xs))

exactly : (n : ℕ) (P : List Node → Type 0) → Each n P → (xs : List Node) → length xs ≡ n → P xs
exactly zero P h [] e = h
exactly zero P h (x ∷ xs) e = absurd (omega arith)
exactly (suc n) P h [] e = absurd (omega arith)
exactly (suc n) P h (x ∷ xs) e = exactly n (λ ys. P (x ∷ ys)) (h x) xs (omega arith)

abbrev pub Commutes : (List Node → Node) → (List Node → Node) → List Node → Type 0
Commutes f f' xs = without_spans (f xs) ≡ f' (map without_spans xs)

-- it is enough to say what is made of exactly so many
pub framed_same : (n : ℕ) (f f' : List Node → Node) → Each n (Commutes f f') → (xs : List Node) → Commutes (framed n f) (framed n f') xs
framed_same n f f' h xs = rw length-map (go (length xs == n) (λ e. exactly n (Commutes f f') h xs (grind arith)))
  where
    go : (b : Bool) → (b ≡ true → Commutes f f' xs) → without_spans (by_frame f (if b then Some xs else None)) ≡ by_frame f' (if b then Some (map without_spans xs) else None)
    go true k = k refl
    go false k = absent_same

abbrev all_unplaced : Option (List Node) → Option (List Node)
all_unplaced None = None
all_unplaced (Some xs) = Some (map without_spans xs)

frame_same : (n : ℕ) (xs : List Node) → all_unplaced (frame n xs) ≡ frame n (map without_spans xs)
frame_same n xs = rw length-map (go (length xs == n))
  where
    go : (b : Bool) → all_unplaced (if b then Some xs else None) ≡ (if b then Some (map without_spans xs) else None)
    go true = refl
    go false = refl

-- chains

pub in_front_same : (x n : Node) → without_spans (in_front x n) ≡ in_front (without_spans x) (without_spans n)
in_front_same x n = simp (unplacing, map-set)

steps_same : (step : Node → Node → Node) → ((x n : Node) → without_spans (step x n) ≡ step (without_spans x) (without_spans n)) → (x : Node) (ns : List Node)
    → without_spans (unwrap_or (steps step (Some x) ns) absent) ≡ unwrap_or (steps step (Some (without_spans x)) (map without_spans ns)) absent
steps_same step h x [] = refl
steps_same step h x (n ∷ ns) = steps_same step h (step x n) ns ∙ ap (λ y. unwrap_or (steps step (Some y) (map without_spans ns)) absent) (h x n)

pub all_steps_same : (step : Node → Node → Node) → ((x n : Node) → without_spans (step x n) ≡ step (without_spans x) (without_spans n)) → (xs : List Node) → Commutes (all_steps step) (all_steps step) xs
all_steps_same step h [] = absent_same
all_steps_same step h (x ∷ ns) = steps_same step h x ns

right_in_front_same : (at : Span) (k : Kind) (n : Node) → Each 2 (Commutes (right_in_front at k n) (right_in_front dummy_span k (without_spans n)))
right_in_front_same at k n l r = without_spans-node at k _ ∙ ap (λ z. node_of dummy_span k (without_spans l ∷ z ∷ [])) (in_front_same r n)

pub in_front_logical_same : (x n : Node) → without_spans (in_front_logical x n) ≡ in_front_logical (without_spans x) (without_spans n)
in_front_logical_same x n =
    let b = is_and (kind_of n) && is_or (kind_of x) in
    let r = framed 2 (right_in_front (from_to (span_of x).lo (span_of n).hi) (kind_of x) n) (children_of x) in
    let r' = framed 2 (right_in_front dummy_span (kind_of x) (without_spans n)) (map without_spans (children_of x)) in
    let back : in_front_logical (without_spans x) (without_spans n) ≡ (if b then r' else in_front (without_spans x) (without_spans n)) = simp (kind_same, children_same, span_same) in
    if_same b r (in_front x n) r' (in_front (without_spans x) (without_spans n))
    (framed_same 2 (right_in_front (from_to (span_of x).lo (span_of n).hi) (kind_of x) n) (right_in_front dummy_span (kind_of x) (without_spans n)) (right_in_front_same _ (kind_of x) n) (children_of x))
    (in_front_same x n) ∙ sym back

-- members, calls and templates

abbrev Going : Node → Type 0
Going n = goes_on (without_spans n) ≡ goes_on n

map_going : (ns : List ((n : Node) × Going n)) → map goes_on (map without_spans (map (λ e. e.0) ns)) ≡ map goes_on (map (λ e. e.0) ns)
map_going [] = refl
map_going (n ∷ ns) = ap₂ (λ b bs. b ∷ bs) n.1 (map_going ns)

pub goes_on_node : (at : Span) (k : Kind) (ns : List Node) → goes_on (node_of at k ns) ≡ goes_on_by k (map goes_on ns)
goes_on_node at k ns = fold-roll-Node Bool goes_on_step (record { span = at; kind = k; children = ns })

pub goes_on_same : (n : Node) → Going n
goes_on_same = ind-Node Going (λ x y is.
    ap goes_on (without_spans-node x.span x.kind x.children) ∙ (goes_on_node dummy_span x.kind (map without_spans x.children)
    ∙ (ap (goes_on_by x.kind) (ap (λ z. map goes_on (map without_spans z.children)) (sym is) ∙ (map_going y.children ∙ ap (λ z. map goes_on z.children) is))
    ∙ sym (goes_on_node x.span x.kind x.children))))

pub linked_same : (n m : Node) → without_spans n ≡ m → without_spans (linked n) ≡ linked m
linked_same n m h = simp (unplacing, ← h)

abbrev pub pair_unplaced : Callee → Callee
pair_unplaced c = (without_spans c.0, without_spans c.1)

instantiated_same : (o : Option (List Node)) → pair_unplaced (instantiated o) ≡ instantiated (all_unplaced o)
instantiated_same None = simp without_spans-node
instantiated_same (Some []) = simp without_spans-node
instantiated_same (Some (x ∷ [])) = simp without_spans-node
instantiated_same (Some (x ∷ y ∷ [])) = refl
instantiated_same (Some (x ∷ y ∷ z ∷ ws)) = simp without_spans-node

callee_by_same : (x : Node) (k : Kind) → pair_unplaced (callee_by x k) ≡ callee_by (without_spans x) k
callee_by_same x kind.TsInstantiation = instantiated_same (frame 2 (children_of x)) ∙ simp (children_same, frame_same)
callee_by_same x k = simp without_spans-node

pub callee_same : (x : Node) → pair_unplaced (callee_of x) ≡ callee_of (without_spans x)
callee_same x = callee_by_same x (kind_of x) ∙ ap (callee_by (without_spans x)) (sym (kind_same x))

linked_in_front_same : (x n : Node) → without_spans (if goes_on x then linked (in_front x n) else in_front x n) ≡ (if goes_on (without_spans x) then linked (in_front (without_spans x) (without_spans n)) else in_front (without_spans x) (without_spans n))
linked_in_front_same x n = rw goes_on_same (if_same (goes_on x) _ _ _ _ (linked_same (in_front x n) _ (in_front_same x n)) (in_front_same x n))

pub member_of_same : (x n : Node) (k : Kind) → without_spans (member_of x n k) ≡ member_of (without_spans x) (without_spans n) k
member_of_same x n kind.Super = simp (unplacing, map-set)
member_of_same x n k = linked_in_front_same x n
