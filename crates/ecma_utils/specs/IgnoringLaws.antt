-- Laws of trees that are compared, and fed to a hasher, without their spans: those that `Eq` and `Hash` ask for.
use Rattle.std.proofs.Common.{◌≡◌, ◌∙◌, ℕ, Bool, true, false, ◌&&◌, List, [], ◌∷◌, map, refl, sym, ap, ap₂}
use Rattle.std.specs.Cmp.{IsEquivalence, both_ways}
use Rattle.ecma_kind.specs.declared.kind.Kind.{Kind}
use Rattle.ecma_kind.specs.contracts.kind.KindEq.TheImpl.Laws as laws
use Rattle.ecma_kind.specs.contracts.kind.KindPartialEq.TheImpl as kind_eq
use Rattle.ecma_kind.proofs.Equality.{kind_exact}
use Rattle.ecma_tree.specs.Nodes.{dummy_span}
use Rattle.ecma_tree.specs.Spans.{unplaced, without_spans}
use Rattle.ecma_tree.specs.declared.node.Node.{Node, Node-F, fold-roll-Node, fold_out-Node, ind-Node, out-Node, roll-Node}
use Rattle.ecma_tree.specs.declared.node.Node.TheViews.{out-roll-Node}
use Rattle.ecma_tree.proofs.Sameness.{children-same, without_spans-same}
use Rattle.ecma_utils.specs.IgnoringSpans.{EqualsHashAlike, all_pass, fed_by, fed_step, fed_tree, same_step, same_tree}

-- ---- what is the same is equal but for spans

both : (a b : Bool) → (a && b) ≡ true → (a ≡ true) × (b ≡ true)
both true b h = (refl, h)
both false b h = cc

same-roll : (x : Node-F Node) (other : Node)
    → same_tree (roll-Node x) other ≡ (kind_eq.ghosts.eq x.kind (out-Node other).kind && all_pass (map same_tree x.children) (out-Node other).children)
same-roll x other = ap (λ (test : Node → Bool). test other) (fold-roll-Node (Node → Bool) same_step x)

abbrev IsExact : Node → Type 0
IsExact n = (other : Node) → same_tree n other ≡ true → without_spans n ≡ without_spans other

exact-all : (ns : List ((n : Node) × IsExact n)) (others : List Node)
    → all_pass (map same_tree (map (λ e. e.0) ns)) others ≡ true → map without_spans (map (λ e. e.0) ns) ≡ map without_spans others
exact-all [] [] h = refl
exact-all [] (o ∷ os) h = cc
exact-all (n ∷ ns) [] h = cc
exact-all (n ∷ ns) (o ∷ os) h =
    let t = both (same_tree n.0 o) (all_pass (map same_tree (map (λ e. e.0) ns)) os) h in
    ap₂ (λ (a : Node) (rest : List Node). a ∷ rest) (n.1 o t.0) (exact-all ns os t.1)

pub same-exact : (n : Node) → IsExact n
same-exact = ind-Node IsExact (λ x y is. λ other h.
    (let parts = out-roll-Node x in
    let t = both (kind_eq.ghosts.eq x.kind (out-Node other).kind) (all_pass (map same_tree x.children) (out-Node other).children)
    (sym (same-roll x other) ∙ h) in
    let below : map without_spans x.children ≡ map without_spans (out-Node other).children =
    ap (λ z. map without_spans z.children) (sym is)
    ∙ exact-all y.children (out-Node other).children (ap (λ z. all_pass (map same_tree z.children) (out-Node other).children) is ∙ t.1) in
    without_spans-same (roll-Node x) other (ap (λ z. z.kind) parts ∙ kind_exact x.kind (out-Node other).kind t.0)
    (ap (λ z. map without_spans z.children) parts ∙ below)))

-- ---- what is equal but for spans is the same

kind-without : (n : Node) → (out-Node (without_spans n)).kind ≡ (out-Node n).kind
kind-without n =
    ap (λ z. (out-Node z).kind) (fold_out-Node Node unplaced n)
    ∙ ap (λ z. z.kind)
    (out-roll-Node (record { span = dummy_span; kind = (out-Node n).kind; children = map without_spans (out-Node n).children }))

kinds-same : (n m : Node) → without_spans n ≡ without_spans m → (out-Node n).kind ≡ (out-Node m).kind
kinds-same n m equal = sym (kind-without n) ∙ (ap (λ z. (out-Node z).kind) equal ∙ kind-without m)

abbrev IsMet : Node → Type 0
IsMet n = (other : Node) → without_spans n ≡ without_spans other → same_tree n other ≡ true

met-all : (ns : List ((n : Node) × IsMet n)) (others : List Node)
    → map without_spans (map (λ e. e.0) ns) ≡ map without_spans others → all_pass (map same_tree (map (λ e. e.0) ns)) others ≡ true
met-all [] [] equal = refl
met-all [] (o ∷ os) equal = cc
met-all (n ∷ ns) [] equal = cc
met-all (n ∷ ns) (o ∷ os) equal =
    let first : without_spans n.0 ≡ without_spans o = cc in
    let rest : map without_spans (map (λ e. e.0) ns) ≡ map without_spans os = cc in
    rw (n.1 o first, met-all ns os rest) refl

pub same-met : (n : Node) → IsMet n
same-met = ind-Node IsMet (λ x y is. λ other equal.
    (let parts = out-roll-Node x in
    let kinds : x.kind ≡ (out-Node other).kind = sym (ap (λ z. z.kind) parts) ∙ kinds-same (roll-Node x) other equal in
    let below : map without_spans x.children ≡ map without_spans (out-Node other).children =
    sym (ap (λ z. map without_spans z.children) parts) ∙ children-same (roll-Node x) other equal in
    let all : all_pass (map same_tree x.children) (out-Node other).children ≡ true =
    ap (λ z. all_pass (map same_tree z.children) (out-Node other).children) (sym is)
    ∙ met-all y.children (out-Node other).children (ap (λ z. map without_spans z.children) is ∙ below) in
    let here : kind_eq.ghosts.eq x.kind (out-Node other).kind ≡ true =
    ap (λ (k : Kind). kind_eq.ghosts.eq k (out-Node other).kind) kinds ∙ laws.laws-law.refl (out-Node other).kind in
    same-roll x other ∙ rw (here, all) refl))

pub same_equivalence : IsEquivalence same_tree
same_equivalence = record {
  refl = λ a. same-met a a refl;
  symm = λ a b. both_ways (same_tree a b) (same_tree b a) (λ t. same-met b a (sym (same-exact a b t)))
      (λ t. same-met a b (sym (same-exact b a t)));
  congr = λ a b o t. both_ways (same_tree a o) (same_tree b o) (λ u. same-met b o (sym (same-exact a b t) ∙ same-exact a o u))
      (λ u. same-met a o (same-exact a b t ∙ same-exact b o u));
}

-- ---- what is fed

fed-all : (ns : List ((n : Node) × (fed_tree (without_spans n) ≡ fed_tree n)))
    → map fed_tree (map without_spans (map (λ e. e.0) ns)) ≡ map fed_tree (map (λ e. e.0) ns)
fed-all [] = refl
fed-all (n ∷ ns) = ap₂ (λ (a : List (List ℕ)) (rest : List (List (List ℕ))). a ∷ rest) n.1 (fed-all ns)

fed-without : (n : Node) → fed_tree (without_spans n) ≡ fed_tree n
fed-without = ind-Node (λ n. fed_tree (without_spans n) ≡ fed_tree n) (λ x y is.
    let below : map fed_tree (map without_spans x.children) ≡ map fed_tree x.children =
    ap (λ z. map fed_tree (map without_spans z.children)) (sym is) ∙ (fed-all y.children ∙ ap (λ z. map fed_tree z.children) is) in
    ap fed_tree (fold-roll-Node Node unplaced x)
    ∙ (fold-roll-Node (List (List ℕ)) fed_step (record { span = dummy_span; kind = x.kind; children = map without_spans x.children })
    ∙ (ap (fed_by x.kind) below ∙ sym (fold-roll-Node (List (List ℕ)) fed_step x))))

pub fed-alike : (a b : Node) → without_spans a ≡ without_spans b → fed_tree a ≡ fed_tree b
fed-alike a b equal = sym (fed-without a) ∙ (ap fed_tree equal ∙ fed-without b)

pub equals_hash_alike : EqualsHashAlike
equals_hash_alike a b same = fed-alike a b (same-exact a b same)
