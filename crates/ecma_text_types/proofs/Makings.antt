-- What is made of bare nodes, and of chains of them.
use Rattle.std.proofs.Common.{◌≡◌, ◌∙◌, ℕ, zero, suc, ◌==◌, Bool, true, false, ◌&&◌, List, [], ◌∷◌, map, length, not, Option, Some, None, refl, sym, ap, ap₂, arith, slice_set, subst, unwrap_or, if◌then◌else◌}
use Rattle.std.proofs.lemmas.List.{length-map}
use Rattle.ecma_kind.specs.declared.span.Span.{Span}
use Rattle.ecma_kind.specs.declared.kind.Kind.{Kind}
use Rattle.ecma_kind.specs.declared.kind.Kind.TheVariants as kind
use Rattle.ecma_tree.specs.Nodes.{absent, node_of}
use Rattle.ecma_tree.specs.declared.node.Node.{Node, Node-F, fold_out-Node, ind-Node, out-Node, roll-Node}
use Rattle.ecma_tree.specs.declared.node.Node.TheViews.{out-roll-Node}
use Rattle.ecma_grammar.specs.trees.Parts.{by_frame, children_of, frame, framed, from_to, in_front, is_absent_kind, is_present, kind_of, span_of}
use Rattle.ecma_grammar.specs.trees.Chains.{Callee, all_steps, callee_by, callee_of, first_true, goes_on, goes_on_by, goes_on_step, in_front_logical, instantiated, is_and, is_or, linked, right_in_front, steps}
use Rattle.ecma_rules.specs.Baring.{bared, holds_types, own_children}
use Rattle.ecma_rules.proofs.Bared.{bared-out}
use Rattle.ecma_text_types.proofs.Bared.{IsBared, MappedAs, all-own, bared-kind, bared-node, bared-own, mapped}

pub bared-span : (n : Node) → span_of (bared n) ≡ span_of n
bared-span n =
    ap span_of (bared-out n)
    ∙ ap (λ p. p.span) (out-roll-Node (record { span = (out-Node n).span; kind = (out-Node n).kind; children = own_children (out-Node n).kind (map bared (out-Node n).children) }))

pub spans-same : (x n : Node) → from_to (span_of x).lo (span_of n).hi ≡ from_to (span_of (bared x)).lo (span_of (bared n)).hi
spans-same x n = sym (ap₂ (λ (s t : Span). from_to s.lo t.hi) (bared-span x) (bared-span n))

pub bared-absent : bared absent ≡ absent
bared-absent = bared-node _ _ []

pub free-node : (at : Span) (k : Kind) (cs : List Node) → holds_types k ≡ false → bared (node_of at k cs) ≡ node_of at k (map bared cs)
free-node at k cs h = bared-node at k cs ∙ ap (node_of at k) (all-own k (map bared cs) h)

pub bared-present : (n : Node) → is_present (bared n) ≡ is_present n
bared-present n = ap (λ k. not (is_absent_kind k)) (bared-kind n)

pub if_bared : (b : Bool) (n m n' m' : Node) → bared n ≡ n' → bared m ≡ m' → bared (if b then n else m) ≡ (if b then n' else m')
if_bared true n m n' m' h k = h
if_bared false n m n' m' h k = k

pub map_if : (b : Bool) (xs ys : List Node) → map bared (if b then xs else ys) ≡ (if b then map bared xs else map bared ys)
map_if true xs ys = refl
map_if false xs ys = refl

-- a list of so many nodes is given by them
abbrev pub Each : ℕ → (List Node → Type 0) → Type 0
Each zero P = P []
Each (suc n) P = (x : Node) → Each n (λ xs. P (x ∷ xs))

exactly : (n : ℕ) (P : List Node → Type 0) → Each n P → (xs : List Node) → length xs ≡ n → P xs
exactly zero P h [] e = h
exactly zero P h (x ∷ xs) e = absurd (omega arith)
exactly (suc n) P h [] e = absurd (omega arith)
exactly (suc n) P h (x ∷ xs) e = exactly n (λ ys. P (x ∷ ys)) (h x) xs (omega arith)

abbrev pub Commutes : (List Node → Node) → (List Node → Node) → List Node → Type 0
Commutes f f' xs = bared (f xs) ≡ f' (map bared xs)

framed_by : (n : ℕ) (f f' : List Node → Node) (xs : List Node) → (length xs ≡ n → Commutes f f' xs) → Commutes (framed n f) (framed n f') xs
framed_by n f f' xs h = rw length-map (go (length xs == n) (λ e. h (grind arith)))
  where
    go : (b : Bool) → (b ≡ true → Commutes f f' xs) → bared (by_frame f (if b then Some xs else None)) ≡ by_frame f' (if b then Some (map bared xs) else None)
    go true k = k refl
    go false k = bared-absent

-- it is enough to say what is made of exactly so many
pub framed_same : (n : ℕ) (f f' : List Node → Node) → Each n (Commutes f f') → (xs : List Node) → Commutes (framed n f) (framed n f') xs
framed_same n f f' h xs = framed_by n f f' xs (exactly n (Commutes f f') h xs)

-- and of those of which something is known
pub framed_if : (n : ℕ) (f f' : List Node → Node) (C : List Node → Type 0) → Each n (λ xs. C xs → Commutes f f' xs) → (xs : List Node) → C xs → Commutes (framed n f) (framed n f') xs
framed_if n f f' C h xs known = framed_by n f f' xs (λ e. exactly n (λ ys. C ys → Commutes f f' ys) h xs e known)

abbrev all_bared : Option (List Node) → Option (List Node)
all_bared None = None
all_bared (Some xs) = Some (map bared xs)

frame_same : (n : ℕ) (xs : List Node) → all_bared (frame n xs) ≡ frame n (map bared xs)
frame_same n xs = rw length-map (go (length xs == n))
  where
    go : (b : Bool) → all_bared (if b then Some xs else None) ≡ (if b then Some (map bared xs) else None)
    go true = refl
    go false = refl

-- chains

pub set-first : (cs : List Node) (x : Node) → map bared (slice_set cs 0 x) ≡ slice_set (map bared cs) 0 (bared x)
set-first [] x = refl
set-first (c ∷ cs) x = refl

own-set : (k : Kind) (cs : List Node) (x : Node) → own_children k (slice_set cs 0 x) ≡ slice_set (own_children k cs) 0 x
own-set kind.TsType cs x = refl
own-set kind.TsTypeParamDecl cs x = refl
own-set kind.TsTypeParamInstantiation cs x = refl
own-set (kind.TsIndexSignature readonly is_static) cs x = refl
own-set (kind.TsInterfaceDecl declare) [] x = refl
own-set (kind.TsInterfaceDecl declare) (c ∷ cs) x = refl
own-set (kind.TsTypeAliasDecl declare) [] x = refl
own-set (kind.TsTypeAliasDecl declare) (c ∷ cs) x = refl
own-set _ cs x = refl

pub in_front-bared : (x n : Node) → bared (in_front x n) ≡ in_front (bared x) (bared n)
in_front-bared x n =
    let at = from_to (span_of x).lo (span_of n).hi in
    let at' = from_to (span_of (bared x)).lo (span_of (bared n)).hi in
    bared-node at (kind_of n) (slice_set (children_of n) 0 x)
    ∙ ap (λ cs. node_of at (kind_of n) cs) (ap (own_children (kind_of n)) (set-first (children_of n) x) ∙ own-set (kind_of n) (map bared (children_of n)) (bared x) ∙ ap (λ cs. slice_set cs 0 (bared x)) (sym (bared-own n)))
    ∙ ap (λ k. node_of at k (slice_set (children_of (bared n)) 0 (bared x))) (sym (bared-kind n))
    ∙ ap (λ (s : Span). node_of s (kind_of (bared n)) (slice_set (children_of (bared n)) 0 (bared x))) (spans-same x n)

-- a step that respects it
abbrev pub Steps : (Node → Node → Node) → Type 0
Steps step = (x n : Node) → bared (step x n) ≡ step (bared x) (bared n)

steps_same : (step : Node → Node → Node) → Steps step → (x : Node) (ns : List Node) → bared (unwrap_or (steps step (Some x) ns) absent) ≡ unwrap_or (steps step (Some (bared x)) (map bared ns)) absent
steps_same step h x [] = refl
steps_same step h x (n ∷ ns) = steps_same step h (step x n) ns ∙ ap (λ y. unwrap_or (steps step (Some y) (map bared ns)) absent) (h x n)

pub all_steps_same : (step : Node → Node → Node) → Steps step → (xs : List Node) → Commutes (all_steps step) (all_steps step) xs
all_steps_same step h [] = bared-absent
all_steps_same step h (x ∷ ns) = steps_same step h x ns

right-in-front : (at : Span) (k : Kind) (n : Node) → holds_types k ≡ false → Each 2 (Commutes (right_in_front at k n) (right_in_front at k (bared n)))
right-in-front at k n free l r = free-node at k (l ∷ in_front r n ∷ []) free ∙ ap (λ z. node_of at k (bared l ∷ z ∷ [])) (in_front-bared r n)

or-free : (k : Kind) → is_or k ≡ true → holds_types k ≡ false
or-free (kind.BinExpr op) h = refl
or-free _ h = absurd (cc)

logical_by : (x n : Node) (a o : Bool) → o ≡ is_or (kind_of x)
    → bared (if a && o then framed 2 (right_in_front (from_to (span_of x).lo (span_of n).hi) (kind_of x) n) (children_of x) else in_front x n)
    ≡ (if a && o then framed 2 (right_in_front (from_to (span_of (bared x)).lo (span_of (bared n)).hi) (kind_of (bared x)) (bared n)) (children_of (bared x)) else in_front (bared x) (bared n))
logical_by x n true true is =
    let free = or-free (kind_of x) (sym is) in
    let at = from_to (span_of x).lo (span_of n).hi in
    framed_same 2 (right_in_front at (kind_of x) n) (right_in_front at (kind_of x) (bared n)) (right-in-front at (kind_of x) n free) (children_of x)
    ∙ ap (λ (cs : List Node). framed 2 (right_in_front at (kind_of x) (bared n)) cs) (sym (mapped x free))
    ∙ ap (λ k. framed 2 (right_in_front at k (bared n)) (children_of (bared x))) (sym (bared-kind x))
    ∙ ap (λ (s : Span). framed 2 (right_in_front s (kind_of (bared x)) (bared n)) (children_of (bared x))) (spans-same x n)
logical_by x n true false is = in_front-bared x n
logical_by x n false o is = in_front-bared x n

pub in_front_logical-bared : Steps in_front_logical
in_front_logical-bared x n =
    logical_by x n (is_and (kind_of n)) (is_or (kind_of x)) refl
    ∙ ap₂ (λ a o. if is_and a && is_or o then framed 2 (right_in_front (from_to (span_of (bared x)).lo (span_of (bared n)).hi) (kind_of (bared x)) (bared n)) (children_of (bared x)) else in_front (bared x) (bared n))
    (sym (bared-kind n)) (sym (bared-kind x))

-- whether an optional chain goes on

goes-out : (n : Node) → goes_on n ≡ goes_on_by (kind_of n) (map goes_on (children_of n))
goes-out = fold_out-Node Bool goes_on_step

abbrev FirstGoes : List Node → Type 0
FirstGoes ns = first_true (map goes_on (map bared ns)) ≡ first_true (map goes_on ns)

first-goes : (ns : List ((n : Node) × (goes_on (bared n) ≡ goes_on n))) → FirstGoes (map (λ e. e.0) ns)
first-goes [] = refl
first-goes (n ∷ ns) = n.1

goes-by : (k : Kind) (n : Node) → MappedAs k n → FirstGoes (children_of n) → goes_on_by k (map goes_on (children_of (bared n))) ≡ goes_on_by k (map goes_on (children_of n))
goes-by kind.TsNonNullExpr n m first = ap (λ (ns : List Node). first_true (map goes_on ns)) (m refl) ∙ first
goes-by kind.TsInstantiation n m first = ap (λ (ns : List Node). first_true (map goes_on ns)) (m refl) ∙ first
goes-by k n m first = refl

goes-layer : (n : Node) → FirstGoes (children_of n) → goes_on (bared n) ≡ goes_on n
goes-layer n first =
    goes-out (bared n) ∙ ap (λ k. goes_on_by k (map goes_on (children_of (bared n)))) (bared-kind n) ∙ goes-by (kind_of n) n (mapped n) first ∙ sym (goes-out n)

pub goes-bared : IsBared goes_on
goes-bared = ind-Node (λ n. goes_on (bared n) ≡ goes_on n) (λ x y is.
    goes-layer (roll-Node x) (subst (λ (z : Node-F Node). FirstGoes z.children) (is ∙ sym (out-roll-Node x)) (first-goes y.children)))

pub linked-bared : (n m : Node) → bared n ≡ m → bared (linked n) ≡ linked m
linked-bared n m h =
    bared-node (span_of n) (kind.OptChainExpr false) (n ∷ [])
    ∙ ap (λ (s : Span). node_of s (kind.OptChainExpr false) (bared n ∷ [])) (sym (bared-span n))
    ∙ ap linked h

-- what is called

abbrev pub pair_bared : Callee → Callee
pair_bared c = (bared c.0, bared c.1)

abbrev pair : Node → Node → Callee
pair a b = (a, b)

none-bared : pair_bared (absent, absent) ≡ (absent, absent)
none-bared = ap₂ pair bared-absent bared-absent

instantiated-bared : (o : Option (List Node)) → pair_bared (instantiated o) ≡ instantiated (all_bared o)
instantiated-bared None = none-bared
instantiated-bared (Some []) = none-bared
instantiated-bared (Some (x ∷ [])) = none-bared
instantiated-bared (Some (x ∷ y ∷ [])) = refl
instantiated-bared (Some (x ∷ y ∷ z ∷ ws)) = none-bared

callee-by : (x : Node) (k : Kind) → MappedAs k x → pair_bared (callee_by x k) ≡ callee_by (bared x) k
callee-by x kind.TsInstantiation m =
    instantiated-bared (frame 2 (children_of x)) ∙ ap instantiated (frame_same 2 (children_of x)) ∙ ap (λ (cs : List Node). instantiated (frame 2 cs)) (sym (m refl))
callee-by x k m = ap (pair (bared x)) bared-absent

pub callee-bared : (x : Node) → pair_bared (callee_of x) ≡ callee_of (bared x)
callee-bared x = callee-by x (kind_of x) (mapped x) ∙ ap (callee_by (bared x)) (sym (bared-kind x))
