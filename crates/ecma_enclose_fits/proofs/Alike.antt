-- What is said of kinds and of children is said of a tree with parentheses added as before.
use Rattle.std.proofs.Common.{◌≡◌, ◌∙◌, ℕ, zero, suc, Bool, true, false, ◌&&◌, ◌||◌, List, [], ◌∷◌, map, length, Option, Some, None, refl, sym, ap, ap₂, subst, slice_get}
use Rattle.std.specs.List.{list_all, list_any}
use Rattle.ecma_kind.specs.Sorts.{is_type_wrapper}
use Rattle.ecma_kind.specs.declared.kind.Kind.{Kind}
use Rattle.ecma_kind.specs.declared.kind.Kind.TheVariants as kind
use Rattle.ecma_kind.specs.declared.shapes.Shape.{Shape}
use Rattle.ecma_kind.specs.declared.shapes.Sort.{Sort}
use Rattle.ecma_kind.specs.declared.span.Span.{Span}
use Rattle.ecma_tree.specs.declared.node.Node.{Node, Node-F, fold-Node, fold_out-Node, out-Node}
use Rattle.ecma_tree.specs.declared.node.Node.TheViews.{out-roll-Node}
use Rattle.ecma_tree.specs.Sorted.{allows, child_shapes, is_list, many}
use Rattle.ecma_rules.specs.Children.{child_holds, child_is, children_of as items_of, has_child, holds_of, is_present, items_at, kind_of, of_kind}
use Rattle.ecma_rules.specs.Statements.{is_text}
use Rattle.ecma_rules.specs.Targets.{first_is}
use Rattle.ecma_strip.proofs.Sorting.{list-kind}
use Rattle.ecma_strip_fits.proofs.Lists.{have_at}
use Rattle.ecma_strip_fits.proofs.Walk.{shape_parts}
use Rattle.ecma_enclose.specs.Enclosing.{in_parentheses, is_async_under_types, is_text_under_types, under_step}
use Rattle.ecma_enclose_fits.proofs.Adding.{Adds, All, Alone, Below, Shaped, adds, children_of, every, first, is_open, more, none}

-- ---- what gets parentheses

-- a text, or a type round an expression
abbrev pub is_lone : Kind → Bool
is_lone (kind.Str value raw) = true
is_lone k = is_type_wrapper k

either_lone : (k : Kind) (b : Bool) → (is_text k || (is_type_wrapper k && b)) ≡ true → is_lone k ≡ true
either_lone (kind.Str value raw) b h = refl
either_lone kind.TsTypeAssertion b h = refl
either_lone kind.TsConstAssertion b h = refl
either_lone kind.TsNonNullExpr b h = refl
either_lone kind.TsAsExpr b h = refl
either_lone kind.TsInstantiation b h = refl
either_lone kind.TsSatisfiesExpr b h = refl
either_lone _ b h = cc

wrapper_lone : (k : Kind) (b : Bool) → (is_type_wrapper k && b) ≡ true → is_lone k ≡ true
wrapper_lone kind.TsTypeAssertion b h = refl
wrapper_lone kind.TsConstAssertion b h = refl
wrapper_lone kind.TsNonNullExpr b h = refl
wrapper_lone kind.TsAsExpr b h = refl
wrapper_lone kind.TsInstantiation b h = refl
wrapper_lone kind.TsSatisfiesExpr b h = refl
wrapper_lone _ b h = cc

pub alone_lone : (k : Kind) (e : Node) → Alone k e → is_lone (kind_of e) ≡ true
alone_lone kind.ExprStmt e h = either_lone (kind_of e) (first_is (map is_text_under_types (children_of e))) (sym (fold_out-Node Bool (under_step is_text) e) ∙ h)
alone_lone (kind.ForOfStmt false) e h = wrapper_lone (kind_of e) (is_async_under_types e) h
alone_lone (kind.ForOfStmt true) e h = absurd h
alone_lone _ e h = absurd h

pub alone_open : (k : Kind) (e : Node) → Alone k e → is_open k ≡ true
alone_open kind.ExprStmt e h = refl
alone_open (kind.ForOfStmt is_await) e h = refl
alone_open _ e h = absurd h

pub paren_parts : (e : Node) → out-Node (in_parentheses e) ≡ record { span = (out-Node e).span; kind = kind.ParenExpr; children = e ∷ [] }
paren_parts e = out-roll-Node (record { span = (out-Node e).span; kind = kind.ParenExpr; children = e ∷ [] })

-- the same of a text and of each type round an expression
abbrev pub Seven : (A : Type 0) → (Kind → A) → A → Type 0
Seven A f x =
    ((value : List ℕ) (raw : Option (List ℕ)) → f (kind.Str value raw) ≡ x)
    × (f kind.TsTypeAssertion ≡ x) × (f kind.TsConstAssertion ≡ x) × (f kind.TsNonNullExpr ≡ x) × (f kind.TsAsExpr ≡ x) × (f kind.TsInstantiation ≡ x) × (f kind.TsSatisfiesExpr ≡ x)

pub seven_at : (A : Type 0) (f : Kind → A) (x : A) → Seven A f x → (k : Kind) → is_lone k ≡ true → f k ≡ x
seven_at A f x (t, a, b, c, d, e, g) (kind.Str value raw) w = t value raw
seven_at A f x (t, a, b, c, d, e, g) kind.TsTypeAssertion w = a
seven_at A f x (t, a, b, c, d, e, g) kind.TsConstAssertion w = b
seven_at A f x (t, a, b, c, d, e, g) kind.TsNonNullExpr w = c
seven_at A f x (t, a, b, c, d, e, g) kind.TsAsExpr w = d
seven_at A f x (t, a, b, c, d, e, g) kind.TsInstantiation w = e
seven_at A f x (t, a, b, c, d, e, g) kind.TsSatisfiesExpr w = g
seven_at A f x s _ w = cc

-- parentheses are as good
abbrev pub Blind : (Kind → Bool) → Type 0
Blind is = Seven Bool is (is kind.ParenExpr)

pub blind_lone : (is : Kind → Bool) → Blind is → (e : Node) → is_lone (kind_of e) ≡ true → is (kind_of (in_parentheses e)) ≡ is (kind_of e)
blind_lone is b e l = ap (λ (z : Node-F Node). is z.kind) (paren_parts e) ∙ sym (seven_at Bool is (is kind.ParenExpr) b (kind_of e) l)

-- ---- nodes

pub kind_same : {a b : Node} → Adds a b → kind_of b ≡ kind_of a
kind_same (adds s k at below) = k

pub span_same : {a b : Node} → Adds a b → (out-Node b).span ≡ (out-Node a).span
span_same (adds s k at below) = at

pub shaped_of : {a b : Node} → Adds a b → Shaped a
shaped_of (adds s k at below) = s

pub below_of : {a b : Node} → Adds a b → Below (kind_of a) (children_of a) (children_of b)
below_of (adds s k at below) = below

-- a test of nodes
abbrev pub Keeps : (Node → Bool) → Node → Node → Type 0
Keeps test a b = test b ≡ test a

abbrev pub Same : (Node → Bool) → Type 0
Same test = (a b : Node) → Adds a b → Keeps test a b

-- one of what gets parentheses
abbrev pub Closed : (Node → Bool) → Type 0
Closed test = (e : Node) → is_lone (kind_of e) ≡ true → test (in_parentheses e) ≡ test e

pub is_same : (is : Kind → Bool) → {a b : Node} → Adds a b → Keeps (λ n. is (kind_of n)) a b
is_same is r = ap is (kind_same r)

pub by_kind : (test : Kind → Node → Bool) → ((k : Kind) (a b : Node) → Adds a b → kind_of a ≡ k → test k b ≡ test k a) → {a b : Node} → Adds a b → Keeps (λ n. test (kind_of n) n) a b
by_kind test same {a} {b} r = ap (λ k. test k b) (kind_same r) ∙ same (kind_of a) a b r refl

some_same : {X : Type 0} {x y : X} → Some x ≡ Some y → x ≡ y
some_same e = cc

-- ---- children

pub usual_below : {k : Kind} {ns ms : List Node} → is_open k ≡ false → Below k ns ms → All ns ms
usual_below o (every all) = all
usual_below {k} o (first e alone all) = let no : true ≡ false = sym (alone_open k e alone) ∙ o in absurd (cc)

-- where no first child may get any
pub all_of : {a b : Node} → Adds a b → is_open (kind_of a) ≡ false → All (children_of a) (children_of b)
all_of r o = usual_below o (below_of r)

pub all_length : {ns ms : List Node} → All ns ms → length ms ≡ length ns
all_length none = refl
all_length (more r all) = ap suc (all_length all)

below_length : {k : Kind} {ns ms : List Node} → Below k ns ms → length ms ≡ length ns
below_length (every all) = all_length all
below_length (first e alone all) = ap suc (all_length all)

pub length_same : {a b : Node} → Adds a b → length (children_of b) ≡ length (children_of a)
length_same r = below_length (below_of r)

all_at : (test : Node → Bool) → Same test → {ns ms : List Node} → All ns ms → (i : ℕ) → holds_of test (slice_get ms i) ≡ holds_of test (slice_get ns i)
all_at test s none i = refl
all_at test s (more r all) zero = s _ _ r
all_at test s (more r all) (suc i) = all_at test s all i

below_at : (test : Node → Bool) → Same test → Closed test → {k : Kind} {ns ms : List Node} → Below k ns ms → (i : ℕ) → holds_of test (slice_get ms i) ≡ holds_of test (slice_get ns i)
below_at test s c (every all) i = all_at test s all i
below_at test s c {k} (first e alone all) zero = c e (alone_lone k e alone)
below_at test s c (first e alone all) (suc i) = all_at test s all i

-- of each child, where the test is as good of what gets parentheses
pub holds_same : (test : Node → Bool) → Same test → Closed test → (i : ℕ) → {a b : Node} → Adds a b → Keeps (λ n. child_holds test n i) a b
holds_same test s c i r = below_at test s c (below_of r) i

-- and where no child does
pub holds_usual : (test : Node → Bool) → Same test → (i : ℕ) {a b : Node} → Adds a b → is_open (kind_of a) ≡ false → child_holds test b i ≡ child_holds test a i
holds_usual test s i r o = all_at test s (all_of r o) i

all_where : (test : Node → Bool) {ns ms : List Node} → All ns ms → (i : ℕ) → ((c d : Node) → slice_get ns i ≡ Some c → Adds c d → test d ≡ test c) → holds_of test (slice_get ms i) ≡ holds_of test (slice_get ns i)
all_where test none i s = refl
all_where test (more {n} {m} r all) zero s = s n m refl r
all_where test (more r all) (suc i) s = all_where test all i s

-- where it is the same of the child that stands there
pub holds_where : (test : Node → Bool) (i : ℕ) {a b : Node} → Adds a b → is_open (kind_of a) ≡ false → ((c d : Node) → slice_get (children_of a) i ≡ Some c → Adds c d → test d ≡ test c) → child_holds test b i ≡ child_holds test a i
holds_where test i r o s = all_where test (all_of r o) i s

-- a child that stands where a node of this shape may
pub child_allowed : {a b : Node} → Adds a b → (i : ℕ) (o : Shape) → ((shape : Shape) → slice_get (child_shapes (kind_of a) shape (length (children_of a))) i ≡ Some o)
    → (c : Node) → slice_get (children_of a) i ≡ Some c → allows o (kind_of c) ≡ true
child_allowed {a} r i o is c at =
    let s = shaped_of r in
    let t = have_at (child_shapes (kind_of a) s.0 (length (children_of a))) (children_of a) (shape_parts a s.0 s.1).1 i c at in
    let same : t.0 ≡ o = some_same (sym t.1 ∙ is s.0) in
    ap (λ o. allows o (kind_of c)) (sym same) ∙ (shape_parts c t.0 t.2).0

all_kind_at : (is : Kind → Bool) {ns ms : List Node} → All ns ms → (i : ℕ) → of_kind is (slice_get ms i) ≡ of_kind is (slice_get ns i)
all_kind_at is none i = refl
all_kind_at is (more r all) zero = is_same is r
all_kind_at is (more r all) (suc i) = all_kind_at is all i

below_kind_at : (is : Kind → Bool) → Blind is → {k : Kind} {ns ms : List Node} → Below k ns ms → (i : ℕ) → of_kind is (slice_get ms i) ≡ of_kind is (slice_get ns i)
below_kind_at is b (every all) i = all_kind_at is all i
below_kind_at is b {k} (first e alone all) zero = blind_lone is b e (alone_lone k e alone)
below_kind_at is b (first e alone all) (suc i) = all_kind_at is all i

pub child_same : (is : Kind → Bool) → Blind is → (i : ℕ) → {a b : Node} → Adds a b → Keeps (λ n. child_is is n i) a b
child_same is b i r = below_kind_at is b (below_of r) i

pub child_usual : (is : Kind → Bool) (i : ℕ) {a b : Node} → Adds a b → is_open (kind_of a) ≡ false → child_is is b i ≡ child_is is a i
child_usual is i r o = all_kind_at is (all_of r o) i

pub has_same : (i : ℕ) → {a b : Node} → Adds a b → Keeps (λ n. has_child n i) a b
has_same i r = child_same is_present ((λ value raw. refl), refl, refl, refl, refl, refl, refl) i r

-- ---- items of a list that is a child

-- what stands at an index is a list
abbrev pub IsListAt : Node → ℕ → Type 0
IsListAt n i = (shape o : Shape) → slice_get (child_shapes (kind_of n) shape (length (children_of n))) i ≡ Some o → (k : Kind) → allows o k ≡ true → is_list k ≡ true

pub listed : (σ : Sort) {o : Shape} → Some (many σ) ≡ Some o → (k : Kind) → allows o k ≡ true → is_list k ≡ true
listed σ same k allowed = ap (λ o. allows o k) (some_same same) ∙ allowed

list_open : (k : Kind) → is_list k ≡ true → is_open k ≡ false
list_open k l = ap is_open (list-kind k l)

items_in : {ns ms : List Node} → All ns ms → (i : ℕ) → ((c : Node) → slice_get ns i ≡ Some c → is_open (kind_of c) ≡ false) → All (items_of (slice_get ns i)) (items_of (slice_get ms i))
items_in none i list = none
items_in (more {n} r all) zero list = all_of r (list n refl)
items_in (more r all) (suc i) list = items_in all i list

pub items_same : (i : ℕ) {a b : Node} → Adds a b → is_open (kind_of a) ≡ false → IsListAt a i → All (items_at a i) (items_at b i)
items_same i {a} r o is = items_in (all_of r o) i (λ c at.
    (let s = shaped_of r in
    let t = have_at (child_shapes (kind_of a) s.0 (length (children_of a))) (children_of a) (shape_parts a s.0 s.1).1 i c at in
    list_open (kind_of c) (is s.0 t.0 t.1 (kind_of c) (shape_parts c t.0 t.2).0)))

pub all_same : (test : Node → Bool) → Same test → {ns ms : List Node} → All ns ms → list_all test ms ≡ list_all test ns
all_same test s none = refl
all_same test s (more r all) = ap₂ (λ a b. a && b) (s _ _ r) (all_same test s all)

pub any_same : (test : Node → Bool) → Same test → {ns ms : List Node} → All ns ms → list_any test ms ≡ list_any test ns
any_same test s none = refl
any_same test s (more r all) = ap₂ (λ a b. a || b) (s _ _ r) (any_same test s all)

-- ---- what is made from the leaves up

module _ {A : Type 0} (step : Node-F A → A) (blind : (at : Span) (k : Kind) (c d : A) (cs : List A) → is_open k ≡ true → step (record { span = at; kind = k; children = c ∷ cs }) ≡ step (record { span = at; kind = k; children = d ∷ cs })) where
  abbrev fold : Node → A
  fold = fold-Node A step

  abbrev at_node : Span → Kind → List A → A
  at_node at k cs = step (record { span = at; kind = k; children = cs })

  mutual
    pub fold_same : {a b : Node} → Adds a b → fold b ≡ fold a
    fold_same {a} {b} (adds s k at below) =
        fold_out-Node A step b
        ∙ ap₂ (λ z w. at_node z w (map fold (children_of b))) at k
        ∙ folded_below (out-Node a).span (kind_of a) below
        ∙ sym (fold_out-Node A step a)

    folded_below : (at : Span) (k : Kind) {ns ms : List Node} → Below k ns ms → at_node at k (map fold ms) ≡ at_node at k (map fold ns)
    folded_below at k (every all) = ap (at_node at k) (folds_same all)
    folded_below at k (first e {ns} {ms} alone all) =
        ap (λ (z : List A). at_node at k (fold (in_parentheses e) ∷ z)) (folds_same all) ∙ blind at k (fold (in_parentheses e)) (fold e) (map fold ns) (alone_open k e alone)

    folds_same : {ns ms : List Node} → All ns ms → map fold ms ≡ map fold ns
    folds_same none = refl
    folds_same (more r all) = ap₂ (λ x xs. x ∷ xs) (fold_same r) (folds_same all)
