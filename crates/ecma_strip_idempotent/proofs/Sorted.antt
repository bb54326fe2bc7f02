-- Stripping a sorted tree twice is stripping it once.
use Rattle.std.proofs.Common.{◌≡◌, ◌∙◌, ℕ, zero, suc, Bool, true, false, ◌&&◌, not, cond, refl, sym, ap, subst, List, [], ◌∷◌, map, filter, length, replicate}
use Rattle.std.specs.List.{list_all}
use Rattle.ecma_kind.specs.declared.kind.Kind.{Kind}
use Rattle.ecma_kind.specs.declared.kind.Kind.TheVariants as kind
use Rattle.ecma_kind.specs.declared.span.Span.{Span}
use Rattle.ecma_kind.specs.declared.shapes.Shape.{Shape}
use Rattle.ecma_kind.specs.declared.shapes.Sort.TheVariants as sort
use Rattle.ecma_tree.specs.Laws.{HaveShapes}
use Rattle.ecma_tree.specs.Nodes.{absent, dummy_span, node_of}
use Rattle.ecma_tree.specs.Sorted.{HasShape, child_shapes, is_absent, item_shape, one}
use Rattle.ecma_tree.specs.declared.node.Node.{Node, Node-F, ind-Node, out-Node, roll-Node}
use Rattle.ecma_tree.specs.declared.node.Node.TheViews.{out-roll-Node, roll-out-Node}
use Rattle.ecma_tree.proofs.ShapeLaws.{node_has_shape}
use Rattle.ecma_strip.specs.Staying.{is_empty_stmt, is_this_param, item_stays, member_stays, specifier_stays, stays}
use Rattle.ecma_strip.specs.Stripping.{body_of, changed_at, operand, plain, plain_children, plain_kind, staying_nodes, stripped, without_empty, without_this}
use Rattle.ecma_strip.proofs.Sorting.{both}
use Rattle.ecma_strip.proofs.Stripping.{stripped-roll}
use Rattle.ecma_strip_idempotent.specs.Laws.{SortedTreesStripOnce}
use Rattle.ecma_strip_idempotent.specs.Lasting.{holds_everywhere, is_full, is_full_by, lasts, lasts_by}
use Rattle.ecma_strip_idempotent.proofs.Names.{param-stays, rest_of}
use Rattle.ecma_strip_idempotent.proofs.Twice.{stripping_twice_is_stripping_once}
use Rattle.ecma_tree.proofs.Layers.{from_leaves-roll}

abbrev nameless_by : Kind → List Node → Bool
nameless_by kind.List cs = list_all (λ n. not (is_this_param n)) cs
nameless_by _ cs = true

abbrev nameless : Node → Bool
nameless n = nameless_by (out-Node n).kind (out-Node n).children

-- no name `this` stands in a list, all the way down
abbrev Nameless : Node → Type 0
Nameless n = holds_everywhere nameless n ≡ true

abbrev AllNameless : List Node → Type 0
AllNameless [] = Unit
AllNameless (n ∷ ns) = Nameless n × AllNameless ns

module _ (test : Node → Bool) where
  everywhere-roll : (x : Node-F Node) → holds_everywhere test (roll-Node x) ≡ (test (roll-Node x) && list_all (λ b. b) (map (holds_everywhere test) x.children))
  everywhere-roll x = from_leaves-roll Bool (λ node held. test node && list_all (λ b. b) held) x

all-held : (ns : List Node) → AllNameless ns → list_all (λ b. b) (map (holds_everywhere nameless) ns) ≡ true
all-held [] h = refl
all-held (n ∷ ns) h = let rest = all-held ns h.1 in λ j. h.0 j && rest j

held-all : (ns : List Node) → list_all (λ b. b) (map (holds_everywhere nameless) ns) ≡ true → AllNameless ns
held-all [] h = tt
held-all (n ∷ ns) h = let parts = both (holds_everywhere nameless n) (list_all (λ b. b) (map (holds_everywhere nameless) ns)) h in (parts.0, held-all ns parts.1)

nameless-roll : (span : Span) (k : Kind) (cs : List Node) → nameless_by k cs ≡ true → AllNameless cs → Nameless (node_of span k cs)
nameless-roll span k cs h below =
    let parts : Node-F Node = record { span = span; kind = k; children = cs } in
    let here = ap (λ (z : Node-F Node). nameless_by z.kind z.children) (out-roll-Node parts) ∙ h in
    let rest = all-held cs below in
    everywhere-roll nameless parts ∙ (λ j. here j && rest j)

nameless-parts : (n : Node) → Nameless n → (nameless_by (out-Node n).kind (out-Node n).children ≡ true) × AllNameless (out-Node n).children
nameless-parts n h =
    let all = subst Nameless (sym (roll-out-Node n)) h in
    let parts = both (nameless (roll-Node (out-Node n))) (list_all (λ b. b) (map (holds_everywhere nameless) (out-Node n).children)) (sym (everywhere-roll nameless (out-Node n)) ∙ all) in
    (ap nameless (sym (roll-out-Node n)) ∙ parts.0, held-all (out-Node n).children parts.1)

absent-nameless : Nameless absent
absent-nameless = nameless-roll dummy_span kind.Absent [] refl tt

empty-nameless : (span : Span) → Nameless (node_of span kind.EmptyStmt [])
empty-nameless span = nameless-roll span kind.EmptyStmt [] refl tt

chosen-nameless : (b : Bool) (c : Node) (cs : List Node) → Nameless c → AllNameless cs → AllNameless (cond b (c ∷ cs) cs)
chosen-nameless true c cs first rest = (first, rest)
chosen-nameless false c cs first rest = rest

filter-nameless : (p : Node → Bool) (cs : List Node) → AllNameless cs → AllNameless (filter p cs)
filter-nameless p [] h = tt
filter-nameless p (c ∷ cs) h = chosen-nameless (p c) c (filter p cs) h.0 (filter-nameless p cs h.1)

chosen-all : (q : Node → Bool) (b : Bool) (c : Node) (cs : List Node) → q c ≡ true → list_all q cs ≡ true → list_all q (cond b (c ∷ cs) cs) ≡ true
chosen-all q true c cs first rest = λ j. first j && rest j
chosen-all q false c cs first rest = rest

filter-all : (q p : Node → Bool) (cs : List Node) → list_all q cs ≡ true → list_all q (filter p cs) ≡ true
filter-all q p [] h = refl
filter-all q p (c ∷ cs) h = let parts = both (q c) (list_all q cs) h in chosen-all q (p c) c (filter p cs) parts.0 (filter-all q p cs parts.1)

filter-here : (k : Kind) (p : Node → Bool) (cs : List Node) → nameless_by k cs ≡ true → nameless_by k (filter p cs) ≡ true
filter-here kind.List p cs h = filter-all (λ n. not (is_this_param n)) p cs h
filter-here _ p cs h = refl

without_empty-nameless : (x : Node) → Nameless x → Nameless (without_empty x)
without_empty-nameless x h =
    let parts = nameless-parts x h in
    let p = λ (n : Node). not (is_empty_stmt (out-Node n).kind) in
    nameless-roll (out-Node x).span (out-Node x).kind (filter p (out-Node x).children) (filter-here (out-Node x).kind p (out-Node x).children parts.0) (filter-nameless p (out-Node x).children parts.1)

body-nameless : (x : Node) → Nameless x → Nameless (body_of x)
body-nameless x h = by (item_stays x)
  where
    by : (b : Bool) → Nameless (cond b x (node_of (out-Node x).span kind.EmptyStmt []))
    by true = h
    by false = empty-nameless (out-Node x).span

this-nameless : (x : Node) → Nameless x → Nameless (without_this x)
this-nameless x h = by (is_absent (out-Node x).kind)
  where
    by : (b : Bool) → Nameless (cond b x absent)
    by true = h
    by false = absent-nameless

changed-nameless : (i : ℕ) (to : Node → Node) → ((x : Node) → Nameless x → Nameless (to x)) → (cs : List Node) → AllNameless cs → AllNameless (changed_at i to cs)
changed-nameless i to keeps [] h = tt
changed-nameless zero to keeps (c ∷ cs) h = (keeps c h.0, h.1)
changed-nameless (suc i) to keeps (c ∷ cs) h = (h.0, changed-nameless i to keeps cs h.1)

children-nameless : (k : Kind) (cs : List Node) → AllNameless cs → AllNameless (plain_children k cs)
unfolding plain_children
children-nameless (kind.Module shebang) cs h = changed-nameless 0 without_empty without_empty-nameless cs h
children-nameless (kind.Script shebang) cs h = changed-nameless 0 without_empty without_empty-nameless cs h
children-nameless kind.BlockStmt cs h = changed-nameless 0 without_empty without_empty-nameless cs h
children-nameless kind.TsModuleBlock cs h = changed-nameless 0 without_empty without_empty-nameless cs h
children-nameless kind.SwitchCase cs h = changed-nameless 1 without_empty without_empty-nameless cs h
children-nameless kind.IfStmt cs h = changed-nameless 1 body_of body-nameless (changed_at 2 body_of cs) (changed-nameless 2 body_of body-nameless cs h)
children-nameless kind.LabeledStmt cs h = changed-nameless 1 body_of body-nameless cs h
children-nameless kind.WhileStmt cs h = changed-nameless 1 body_of body-nameless cs h
children-nameless kind.DoWhileStmt cs h = changed-nameless 1 body_of body-nameless cs h
children-nameless kind.ForStmt cs h = changed-nameless 3 body_of body-nameless cs h
children-nameless kind.ForInStmt cs h = changed-nameless 2 body_of body-nameless cs h
children-nameless (kind.ForOfStmt is_await) cs h = changed-nameless 2 body_of body-nameless cs h
children-nameless kind.SetterProp cs h = changed-nameless 1 without_this this-nameless cs h
children-nameless _ cs h = h

-- ---- the whole tree

abbrev LeftNameless : Node → Type 0
LeftNameless n = (s : Shape) → HasShape s n → Nameless (stripped n)

abbrev nodes : List ((n : Node) × LeftNameless n) → List Node
nodes ns = map (λ e. e.0) ns

all-left : (shapes : List Shape) (ns : List ((n : Node) × LeftNameless n)) → HaveShapes shapes (nodes ns) → AllNameless (map stripped (nodes ns))
all-left [] [] h = tt
all-left [] (n ∷ ns) h = absurd h
all-left (s ∷ shapes) [] h = absurd h
all-left (s ∷ shapes) (n ∷ ns) h = (n.1 s h.0, all-left shapes ns h.1)

not-true : (b : Bool) → not b ≡ true → b ≡ false
not-true true h = cc
not-true false h = refl

stays-no-this : (n : Node) → stays n ≡ true → is_this_param n ≡ false
unfolding stays
stays-no-this n h = not-true (is_this_param n) (both ((item_stays n && member_stays n) && specifier_stays (out-Node n).kind) (not (is_this_param n)) h).1

abbrev ItemsLeft : List Node → Type 0
ItemsLeft cs = (list_all (λ n. not (is_this_param n)) cs ≡ true) × AllNameless cs

item-left : (s : Shape) (b : Bool) (n : (n : Node) × LeftNameless n) (ns : List Node) → stays n.0 ≡ b → HasShape s n.0 → ItemsLeft (map stripped ns) → ItemsLeft (map stripped (cond b (n.0 ∷ ns) ns))
item-left s true n ns st h rest =
    let here = ap not (param-stays n.0 s h (stays-no-this n.0 st)) in
    let others = rest.0 in
    ((λ j. here j && others j), (n.1 s h, rest.1))
item-left s false n ns st h rest = rest

items-left : (s : Shape) (ns : List ((n : Node) × LeftNameless n)) → HaveShapes (replicate (length (nodes ns)) s) (nodes ns) → ItemsLeft (map stripped (filter stays (nodes ns)))
items-left s [] h = (refl, tt)
items-left s (n ∷ ns) h = item-left s (stays n.0) n (filter stays (nodes ns)) refl h.0 (items-left s ns h.1)

operand-left : (span : Span) (k : Kind) (ns : List ((n : Node) × LeftNameless n)) (rest : List Shape) → nameless_by k [] ≡ true → HaveShapes (one sort.Expr ∷ rest) (nodes ns) → Nameless (operand span k (map stripped (nodes ns)))
operand-left span k [] rest u h = nameless-roll span k [] u tt
operand-left span k (n ∷ ns) rest u h = n.1 (one sort.Expr) h.0

list-left : (span : Span) (s : Shape) (ns : List ((n : Node) × LeftNameless n)) → HaveShapes (child_shapes kind.List s (length (nodes ns))) (nodes ns)
    → Nameless (node_of span (plain_kind kind.List) (plain_children kind.List (map stripped (filter stays (nodes ns)))))
unfolding plain_kind plain_children
list-left span s ns h =
    let items = items-left (item_shape s) ns h in
    nameless-roll span kind.List (map stripped (filter stays (nodes ns))) items.0 items.1

here-plain : (k : Kind) (cs : List Node) → nameless_by (plain_kind k) cs ≡ nameless_by k cs
unfolding plain_kind
here-plain kind.Absent cs = refl
here-plain _ cs = refl

general : (span : Span) (k : Kind) (s : Shape) (ns : List ((n : Node) × LeftNameless n)) → nameless_by k (plain_children k (map stripped (nodes ns))) ≡ true
    → HaveShapes (child_shapes k s (length (nodes ns))) (nodes ns) → Nameless (node_of span (plain_kind k) (plain_children k (map stripped (nodes ns))))
general span k s ns u h =
    let cs = map stripped (nodes ns) in
    nameless-roll span (plain_kind k) (plain_children k cs) (here-plain k (plain_children k cs) ∙ u) (children-nameless k cs (all-left (child_shapes k s (length (nodes ns))) ns h))

layer : (span : Span) (k : Kind) (s : Shape) (ns : List ((n : Node) × LeftNameless n)) → HaveShapes (child_shapes k s (length (nodes ns))) (nodes ns) → Nameless (plain span k (map stripped (staying_nodes k (nodes ns))))
unfolding plain
layer span kind.TsTypeAnn s ns h = absent-nameless
layer span kind.TsType s ns h = absent-nameless
layer span kind.TsTypeParamDecl s ns h = absent-nameless
layer span kind.TsTypeParamInstantiation s ns h = absent-nameless
layer span kind.TsTypeAssertion s ns h = operand-left span kind.TsTypeAssertion ns (rest_of kind.TsTypeAssertion) refl h
layer span kind.TsConstAssertion s ns h = operand-left span kind.TsConstAssertion ns (rest_of kind.TsConstAssertion) refl h
layer span kind.TsNonNullExpr s ns h = operand-left span kind.TsNonNullExpr ns (rest_of kind.TsNonNullExpr) refl h
layer span kind.TsAsExpr s ns h = operand-left span kind.TsAsExpr ns (rest_of kind.TsAsExpr) refl h
layer span kind.TsInstantiation s ns h = operand-left span kind.TsInstantiation ns (rest_of kind.TsInstantiation) refl h
layer span kind.TsSatisfiesExpr s ns h = operand-left span kind.TsSatisfiesExpr ns (rest_of kind.TsSatisfiesExpr) refl h
layer span kind.List s ns h = list-left span s ns h
layer span k s ns h = general span k s ns refl h

left : (n : Node) → LeftNameless n
left = ind-Node LeftNameless (λ x y is.
    (let parts : Node-F Node = record { span = y.span; kind = y.kind; children = nodes y.children } in
    subst (λ (z : Node-F Node). LeftNameless (roll-Node z)) is (λ s h.
    subst Nameless (sym (stripped-roll parts)) (layer y.span y.kind s y.children ((node_has_shape y.span y.kind (nodes y.children) s).0 h).1))))

-- ---- both tests at once

both-last : (k : Kind) (cs : List Node) → is_full_by k cs ≡ true → nameless_by k cs ≡ true → lasts_by k cs ≡ true
unfolding lasts_by is_full_by
both-last kind.List cs f t = t
both-last (kind.TsModuleDecl d g) cs f t = f
both-last _ cs f t = refl

abbrev BothLast : Node → Type 0
BothLast n = holds_everywhere is_full n ≡ true → Nameless n → holds_everywhere lasts n ≡ true

all-last : (ns : List ((n : Node) × BothLast n)) → list_all (λ b. b) (map (holds_everywhere is_full) (map (λ e. e.0) ns)) ≡ true
    → list_all (λ b. b) (map (holds_everywhere nameless) (map (λ e. e.0) ns)) ≡ true → list_all (λ b. b) (map (holds_everywhere lasts) (map (λ e. e.0) ns)) ≡ true
all-last [] f t = refl
all-last (n ∷ ns) f t =
    let full = both _ _ f in
    let name = both _ _ t in
    let first = n.1 full.0 name.0 in
    let rest = all-last ns full.1 name.1 in
    λ j. first j && rest j

last-everywhere : (n : Node) → BothLast n
last-everywhere = ind-Node BothLast (λ x y is.
    (let parts : Node-F Node = record { span = y.span; kind = y.kind; children = map (λ e. e.0) y.children } in
    subst (λ (z : Node-F Node). BothLast (roll-Node z)) is (λ f t.
    (let full = both (is_full (roll-Node parts)) (list_all (λ b. b) (map (holds_everywhere is_full) (map (λ e. e.0) y.children))) (sym (everywhere-roll is_full parts) ∙ f) in
    let name = both (nameless (roll-Node parts)) (list_all (λ b. b) (map (holds_everywhere nameless) (map (λ e. e.0) y.children))) (sym (everywhere-roll nameless parts) ∙ t) in
    let here = both-last (out-Node (roll-Node parts)).kind (out-Node (roll-Node parts)).children full.0 name.0 in
    let rest = all-last y.children full.1 name.1 in
    everywhere-roll lasts parts ∙ (λ j. here j && rest j)))))

pub sorted_trees_strip_once : SortedTreesStripOnce
sorted_trees_strip_once tree sort has h full = stripping_twice_is_stripping_once tree sort h (last-everywhere (stripped tree) full (left tree (one sort) has))
