-- A tree without what its types hold, node by node.
use Rattle.std.proofs.Common.{◌≡◌, ◌∙◌, ℕ, zero, suc, Bool, false, List, [], ◌∷◌, map, Option, Some, None, length, refl, ap, ap₂, slice_get, subst}
use Rattle.ecma_kind.specs.declared.kind.Kind.{Kind}
use Rattle.ecma_kind.specs.declared.kind.Kind.TheVariants as kind
use Rattle.ecma_kind.specs.declared.span.Span.{Span}
use Rattle.ecma_tree.specs.declared.node.Node.{Node, Node-F, fold-roll-Node, ind-Node, out-Node, roll-Node}
use Rattle.ecma_tree.specs.declared.node.Node.TheViews.{out-roll-Node}
use Rattle.ecma_tree.specs.Nodes.{node_of}
use Rattle.ecma_rules.specs.Baring.{bared, bared_step, holds_types, own_children}
use Rattle.ecma_rules.proofs.Bared.{bared-out}
use Rattle.ecma_grammar_laws.specs.RawSorts.{HasRawShape, RawShape, child_shapes_raw}
use Rattle.ecma_grammar_laws.proofs.RawShapes.{HaveRaw, parts_of}
use Rattle.ecma_rules.specs.Children.{child_holds, child_is, children_of, has_child, holds_of, is_present, items_at, kind_of, of_kind}

pub bared-kind : (n : Node) → kind_of (bared n) ≡ kind_of n
bared-kind n =
    ap kind_of (bared-out n)
    ∙ ap (λ p. p.kind) (out-roll-Node (record { span = (out-Node n).span; kind = (out-Node n).kind; children = own_children (out-Node n).kind (map bared (out-Node n).children) }))

pub bared-own : (n : Node) → (out-Node (bared n)).children ≡ own_children (kind_of n) (map bared (out-Node n).children)
bared-own n =
    ap (λ m. (out-Node m).children) (bared-out n)
    ∙ ap (λ p. p.children) (out-roll-Node (record { span = (out-Node n).span; kind = (out-Node n).kind; children = own_children (out-Node n).kind (map bared (out-Node n).children) }))

pub all-own : (k : Kind) (cs : List Node) → holds_types k ≡ false → own_children k cs ≡ cs
all-own kind.TsType cs h = cc
all-own kind.TsTypeParamDecl cs h = cc
all-own kind.TsTypeParamInstantiation cs h = cc
all-own (kind.TsIndexSignature readonly is_static) cs h = cc
all-own (kind.TsInterfaceDecl declare) cs h = cc
all-own (kind.TsTypeAliasDecl declare) cs h = cc
all-own _ cs h = refl

-- all children of a node stay
abbrev pub Mapped : Node → Type 0
Mapped n = (out-Node (bared n)).children ≡ map bared (out-Node n).children

-- so it is of a kind that holds no types
abbrev pub MappedAs : Kind → Node → Type 0
MappedAs k n = holds_types k ≡ false → Mapped n

pub mapped : (n : Node) → MappedAs (kind_of n) n
mapped n h = bared-own n ∙ all-own (kind_of n) (map bared (out-Node n).children) h

-- the child at an index, if there is one
abbrev pub bared_of : Option Node → Option Node
bared_of None = None
bared_of (Some n) = Some (bared n)

map-get : (ns : List Node) (i : ℕ) → slice_get (map bared ns) i ≡ bared_of (slice_get ns i)
map-get [] i = refl
map-get (n ∷ ns) zero = refl
map-get (n ∷ ns) (suc i) = map-get ns i

pub bared-child : (n : Node) → Mapped n → (i : ℕ) → slice_get (out-Node (bared n)).children i ≡ bared_of (slice_get (out-Node n).children i)
bared-child n m i = ap (λ ns. slice_get ns i) m ∙ map-get (out-Node n).children i

of-kind : (is : Kind → Bool) (child : Option Node) → of_kind is (bared_of child) ≡ of_kind is child
of-kind is None = refl
of-kind is (Some n) = ap is (bared-kind n)

pub bared-child_is : (is : Kind → Bool) (n : Node) → Mapped n → (i : ℕ) → child_is is (bared n) i ≡ child_is is n i
bared-child_is is n m i = ap (of_kind is) (bared-child n m i) ∙ of-kind is (slice_get (out-Node n).children i)

pub bared-has_child : (n : Node) → Mapped n → (i : ℕ) → has_child (bared n) i ≡ has_child n i
bared-has_child = bared-child_is is_present

-- a test to which what types hold does not matter
abbrev pub IsBared : {A : Type 0} → (Node → A) → Type 0
IsBared test = (n : Node) → test (bared n) ≡ test n

holds-of : (test : Node → Bool) → IsBared test → (child : Option Node) → holds_of test (bared_of child) ≡ holds_of test child
holds-of test same None = refl
holds-of test same (Some n) = same n

pub bared-child_holds : (test : Node → Bool) → IsBared test → (n : Node) → Mapped n → (i : ℕ) → child_holds test (bared n) i ≡ child_holds test n i
bared-child_holds test same n m i = ap (holds_of test) (bared-child n m i) ∙ holds-of test same (slice_get (out-Node n).children i)

-- what is asked of the items of a list, where no list of types is asked
pub bared-items : (n : Node) → Mapped n → (i : ℕ) → ((c : Node) → slice_get (out-Node n).children i ≡ Some c → Mapped c) → items_at (bared n) i ≡ map bared (items_at n i)
bared-items n m i lists = ap children_of (bared-child n m i) ∙ items-of (slice_get (out-Node n).children i) lists
  where
    items-of : (child : Option Node) → ((c : Node) → child ≡ Some c → Mapped c) → children_of (bared_of child) ≡ map bared (children_of child)
    items-of None lists = refl
    items-of (Some c) lists = lists c refl

map-length : (ns : List Node) → length (map bared ns) ≡ length ns
map-length [] = refl
map-length (n ∷ ns) = ap suc (map-length ns)

pub bared-count : (n : Node) → Mapped n → length (out-Node (bared n)).children ≡ length (out-Node n).children
bared-count n m = ap length m ∙ map-length (out-Node n).children

pub bared-node : (span : Span) (k : Kind) (cs : List Node) → bared (node_of span k cs) ≡ node_of span k (own_children k (map bared cs))
bared-node span k cs = fold-roll-Node Node bared_step (record { span = span; kind = k; children = cs })

-- a tree with the sorts of the grammar, whose types hold nothing, is itself
abbrev Itself : Node → Type 0
Itself n = (s : RawShape) → HasRawShape s n → bared n ≡ n

all_itself : (es : List ((n : Node) × Itself n)) (ss : List RawShape) → HaveRaw ss (map (λ e. e.0) es) → map bared (map (λ e. e.0) es) ≡ map (λ e. e.0) es
all_itself [] [] h = refl
all_itself [] (s ∷ ss) h = absurd h
all_itself (e ∷ es) [] h = absurd h
all_itself (e ∷ es) (s ∷ ss) h = ap₂ (λ x xs. x ∷ xs) (e.1 s h.0) (all_itself es ss h.1)

own_all : (k : Kind) (s : RawShape) (cs : List Node) → HaveRaw (child_shapes_raw k s (length cs)) cs → own_children k cs ≡ cs
own_all kind.TsType s [] h = refl
own_all kind.TsType s (c ∷ cs) h = absurd h
own_all kind.TsTypeParamDecl s [] h = refl
own_all kind.TsTypeParamDecl s (c ∷ cs) h = absurd h
own_all kind.TsTypeParamInstantiation s [] h = refl
own_all kind.TsTypeParamInstantiation s (c ∷ cs) h = absurd h
own_all (kind.TsIndexSignature readonly is_static) s [] h = refl
own_all (kind.TsIndexSignature readonly is_static) s (c ∷ cs) h = absurd h
own_all (kind.TsInterfaceDecl declare) s [] h = refl
own_all (kind.TsInterfaceDecl declare) s (c ∷ []) h = refl
own_all (kind.TsInterfaceDecl declare) s (c ∷ d ∷ cs) h = absurd h.1
own_all (kind.TsTypeAliasDecl declare) s [] h = refl
own_all (kind.TsTypeAliasDecl declare) s (c ∷ []) h = refl
own_all (kind.TsTypeAliasDecl declare) s (c ∷ d ∷ cs) h = absurd h.1
own_all _ s cs h = refl

node_itself : (x : Node-F Node) → ((ss : List RawShape) → HaveRaw ss x.children → map bared x.children ≡ x.children) → Itself (roll-Node x)
node_itself x below s h =
    let t = parts_of (roll-Node x) s h in
    let have : HaveRaw (child_shapes_raw x.kind s (length x.children)) x.children = subst (λ (p : Node-F Node). HaveRaw (child_shapes_raw p.kind s (length p.children)) p.children) (out-roll-Node x) t.1 in
    bared-node x.span x.kind x.children
    ∙ ap (λ cs. node_of x.span x.kind (own_children x.kind cs)) (below (child_shapes_raw x.kind s (length x.children)) have)
    ∙ ap (node_of x.span x.kind) (own_all x.kind s x.children have)

pub bared_sorted : (s : RawShape) (n : Node) → HasRawShape s n → bared n ≡ n
bared_sorted s n = (ind-Node Itself (λ x y is. node_itself x (λ ss h. subst (λ (z : Node-F Node). HaveRaw ss z.children → map bared z.children ≡ z.children) is (all_itself y.children ss) h)) n) s
