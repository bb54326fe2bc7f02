-- Stripping twice is stripping once.
use Rattle.std.proofs.Common.{◌≡◌, ◌∙◌, ℕ, zero, suc, Bool, true, false, ◌&&◌, not, cond, refl, sym, ap, ap₂, subst, List, [], ◌∷◌, map, filter, length, replicate, Some, slice_get}
use Rattle.std.specs.List.{list_all}
use Rattle.ecma_kind.specs.Sorts.{belongs, is_type_wrapper}
use Rattle.ecma_kind.specs.declared.kind.Kind.{Kind}
use Rattle.ecma_kind.specs.declared.kind.Kind.TheVariants as kind
use Rattle.ecma_kind.specs.declared.span.Span.{Span}
use Rattle.ecma_kind.specs.declared.shapes.Count.{Count}
use Rattle.ecma_kind.specs.declared.shapes.Count.TheVariants.{One, Maybe, Many, MaybeMany, Holes}
use Rattle.ecma_kind.specs.declared.shapes.Shape.{Shape}
use Rattle.ecma_kind.specs.declared.shapes.Sort.{Sort}
use Rattle.ecma_kind.specs.declared.shapes.Sort.TheVariants as sort
use Rattle.ecma_tree.specs.Nodes.{absent, dummy_span, node_of}
use Rattle.ecma_tree.specs.Sorted.{all_have_shapes, allows, allows_by, child_shapes, is_absent, is_list, item_count, item_shape, many, one}
use Rattle.ecma_tree.specs.declared.node.Node.{Node, Node-F, fold-roll-Node, ind-Node, out-Node, roll-Node}
use Rattle.ecma_tree.specs.declared.node.Node.TheViews.{out-roll-Node}
use Rattle.ecma_strip.specs.Laws.{first_has, has_shape_under_types, shape_under_types_by}
use Rattle.ecma_strip.specs.Staying.{is_ambient, is_empty_stmt, is_this_param, item_stays, stays}
use Rattle.ecma_strip.specs.Stripping.{body_of, changed_at, operand, plain, plain_children, plain_kind, staying_nodes, stripped, without_empty, without_this}
use Rattle.ecma_strip.proofs.Sorting.{allows-under, both}
use Rattle.ecma_strip.proofs.Stripping.{stripped-roll}
use Rattle.ecma_strip_idempotent.specs.Laws.{StrippingTwiceIsStrippingOnce}
use Rattle.ecma_strip_idempotent.specs.Lasting.{lasts_by}
use Rattle.ecma_strip_idempotent.proofs.Again.{AllLast, Lasts, asked, below, lasting, shaped}
use Rattle.ecma_strip_idempotent.proofs.Items.{stays-again}
use Rattle.ecma_strip_idempotent.proofs.Steady.{is_listed, is_single, no}
use Rattle.ecma_tree.specs.Values.{is_value}

-- a node that stays when it is stripped, where nothing is left in it that goes then
abbrev Settles : Node → Type 0
Settles n = Lasts n → stripped n ≡ n

abbrev AllSettle : List Node → Type 0
AllSettle [] = Unit
AllSettle (n ∷ ns) = Settles n × AllSettle ns

all-fixed : (ns : List Node) → AllSettle ns → AllLast ns → map stripped ns ≡ ns
all-fixed [] h l = refl
all-fixed (n ∷ ns) h l =
    let parts = both _ _ l in
    ap₂ (λ x xs. x ∷ xs) (h.0 parts.0) (all-fixed ns h.1 parts.1)

-- ---- what is done to children, done twice

chosen-twice : (p : Node → Bool) (b : Bool) (x : Node) (xs : List Node) → p x ≡ b → filter p xs ≡ xs → filter p (cond b (x ∷ xs) xs) ≡ cond b (x ∷ xs) xs
chosen-twice p true x xs e h = ap (λ c. cond c (x ∷ filter p xs) (filter p xs)) e ∙ ap (λ z. x ∷ z) h
chosen-twice p false x xs e h = h

filter-twice : (p : Node → Bool) (xs : List Node) → filter p (filter p xs) ≡ filter p xs
filter-twice p [] = refl
filter-twice p (x ∷ xs) = chosen-twice p (p x) x (filter p xs) refl (filter-twice p xs)

abbrev is_there : Node → Bool
is_there n = not (is_empty_stmt (out-Node n).kind)

empty-rolled : (span : Span) (k : Kind) (cs : List Node) → without_empty (node_of span k cs) ≡ node_of span k (filter is_there cs)
empty-rolled span k cs = ap (λ (z : Node-F Node). node_of z.span z.kind (filter is_there z.children)) (out-roll-Node (record { span = span; kind = k; children = cs }))

empty-twice : (x : Node) → without_empty (without_empty x) ≡ without_empty x
empty-twice x = empty-rolled (out-Node x).span (out-Node x).kind (filter is_there (out-Node x).children) ∙ ap (node_of (out-Node x).span (out-Node x).kind) (filter-twice is_there (out-Node x).children)

empty-item : (n : Node) → is_empty_stmt (out-Node n).kind ≡ true → item_stays n ≡ true
empty-item n e = ap (λ b. cond b true (cond (belongs sort.ModuleItem (out-Node n).kind) (is_value n && not (is_ambient n)) true)) e

empty-stays : (span : Span) → item_stays (node_of span kind.EmptyStmt []) ≡ true
empty-stays span = empty-item (node_of span kind.EmptyStmt []) (ap (λ (z : Node-F Node). is_empty_stmt z.kind) (out-roll-Node (record { span = span; kind = kind.EmptyStmt; children = [] })))

body-twice : (x : Node) → body_of (body_of x) ≡ body_of x
body-twice x = by (item_stays x) refl
  where
    by : (b : Bool) → item_stays x ≡ b → body_of (cond b x (node_of (out-Node x).span kind.EmptyStmt [])) ≡ cond b x (node_of (out-Node x).span kind.EmptyStmt [])
    by true e = ap (λ b. cond b x (node_of (out-Node x).span kind.EmptyStmt [])) e
    by false e = ap (λ b. cond b (node_of (out-Node x).span kind.EmptyStmt []) (node_of (out-Node (node_of (out-Node x).span kind.EmptyStmt [])).span kind.EmptyStmt [])) (empty-stays (out-Node x).span)

this-twice : (x : Node) → without_this (without_this x) ≡ without_this x
this-twice x = by (is_absent (out-Node x).kind) refl
  where
    by : (b : Bool) → is_absent (out-Node x).kind ≡ b → without_this (cond b x absent) ≡ cond b x absent
    by true e = ap (λ b. cond b x absent) e
    by false e = ap (λ (z : Node-F Node). cond (is_absent z.kind) absent absent) (out-roll-Node (record { span = dummy_span; kind = kind.Absent; children = [] }))

changed-twice : (i : ℕ) (to : Node → Node) → ((x : Node) → to (to x) ≡ to x) → (cs : List Node) → changed_at i to (changed_at i to cs) ≡ changed_at i to cs
changed-twice i to same [] = refl
changed-twice zero to same (c ∷ cs) = ap (λ z. z ∷ cs) (same c)
changed-twice (suc i) to same (c ∷ cs) = ap (λ z. c ∷ z) (changed-twice i to same cs)

if-twice : (cs : List Node) → changed_at 1 body_of (changed_at 2 body_of (changed_at 1 body_of (changed_at 2 body_of cs))) ≡ changed_at 1 body_of (changed_at 2 body_of cs)
if-twice [] = refl
if-twice (t ∷ []) = refl
if-twice (t ∷ c ∷ []) = ap (λ z. t ∷ z ∷ []) (body-twice c)
if-twice (t ∷ c ∷ a ∷ ns) = ap₂ (λ z w. t ∷ z ∷ w ∷ ns) (body-twice c) (body-twice a)

children-twice : (k : Kind) (cs : List Node) → plain_children k (plain_children k cs) ≡ plain_children k cs
unfolding plain_children
children-twice (kind.Module shebang) cs = changed-twice 0 without_empty empty-twice cs
children-twice (kind.Script shebang) cs = changed-twice 0 without_empty empty-twice cs
children-twice kind.BlockStmt cs = changed-twice 0 without_empty empty-twice cs
children-twice kind.TsModuleBlock cs = changed-twice 0 without_empty empty-twice cs
children-twice kind.SwitchCase cs = changed-twice 1 without_empty empty-twice cs
children-twice kind.IfStmt cs = if-twice cs
children-twice kind.LabeledStmt cs = changed-twice 1 body_of body-twice cs
children-twice kind.WhileStmt cs = changed-twice 1 body_of body-twice cs
children-twice kind.DoWhileStmt cs = changed-twice 1 body_of body-twice cs
children-twice kind.ForStmt cs = changed-twice 3 body_of body-twice cs
children-twice kind.ForInStmt cs = changed-twice 2 body_of body-twice cs
children-twice (kind.ForOfStmt is_await) cs = changed-twice 2 body_of body-twice cs
children-twice kind.SetterProp cs = changed-twice 1 without_this this-twice cs
children-twice _ cs = refl

-- all kinds but lists, types and expressions with a type round them
abbrev is_other : Kind → Bool
is_other kind.List = false
is_other kind.TsTypeAnn = false
is_other kind.TsType = false
is_other kind.TsTypeParamDecl = false
is_other kind.TsTypeParamInstantiation = false
is_other k = not (is_type_wrapper k)

plain-twice : (span : Span) (k : Kind) (cs : List Node) → is_other k ≡ true → map stripped (plain_children k cs) ≡ plain_children k cs
    → plain span (plain_kind k) (map stripped (staying_nodes (plain_kind k) (plain_children k cs))) ≡ node_of span (plain_kind k) (plain_children (plain_kind k) (plain_children k cs))
unfolding plain plain_kind
plain-twice span kind.List cs o f = absurd (no o)
plain-twice span kind.TsTypeAnn cs o f = absurd (no o)
plain-twice span kind.TsType cs o f = absurd (no o)
plain-twice span kind.TsTypeParamDecl cs o f = absurd (no o)
plain-twice span kind.TsTypeParamInstantiation cs o f = absurd (no o)
plain-twice span kind.TsTypeAssertion cs o f = absurd (no o)
plain-twice span kind.TsConstAssertion cs o f = absurd (no o)
plain-twice span kind.TsNonNullExpr cs o f = absurd (no o)
plain-twice span kind.TsAsExpr cs o f = absurd (no o)
plain-twice span kind.TsInstantiation cs o f = absurd (no o)
plain-twice span kind.TsSatisfiesExpr cs o f = absurd (no o)
plain-twice span k cs o f = ap (λ z. node_of span (plain_kind k) (plain_children (plain_kind k) z)) f

same-children : (k : Kind) (cs : List Node) → plain_children (plain_kind k) cs ≡ plain_children k cs
unfolding plain_kind plain_children
same-children kind.Absent cs = refl
same-children _ cs = refl

node-settles : (span : Span) (k : Kind) (cs : List Node) → is_other k ≡ true → AllSettle (plain_children k cs) → Settles (node_of span (plain_kind k) (plain_children k cs))
node-settles span k cs o h l =
    stripped-roll (record { span = span; kind = plain_kind k; children = plain_children k cs })
    ∙ plain-twice span k cs o (all-fixed (plain_children k cs) h (lasting span (plain_kind k) (plain_children k cs) l).1)
    ∙ ap (node_of span (plain_kind k)) (same-children k (plain_children k cs) ∙ children-twice k cs)

absent-settles : Settles absent
unfolding plain plain_kind plain_children
absent-settles l = stripped-roll (record { span = dummy_span; kind = kind.Absent; children = [] })

empty-settles : (span : Span) → Settles (node_of span kind.EmptyStmt [])
unfolding plain plain_kind plain_children
empty-settles span l = stripped-roll (record { span = span; kind = kind.EmptyStmt; children = [] })

-- ---- lists

abbrev AllStay : List Node → Type 0
AllStay [] = Unit
AllStay (n ∷ ns) = (Settles n × (Lasts n → is_this_param n ≡ false → stays n ≡ true)) × AllStay ns

not-true : (b : Bool) → not b ≡ true → b ≡ false
not-true true h = cc
not-true false h = refl

all-stay : (ns : List Node) → AllStay ns → AllLast ns → list_all (λ n. not (is_this_param n)) ns ≡ true → map stripped (filter stays ns) ≡ ns
all-stay [] h l t = refl
all-stay (n ∷ ns) h l t =
    let last = both _ _ l in
    let this = both (not (is_this_param n)) (list_all (λ n. not (is_this_param n)) ns) t in
    ap (λ b. map stripped (cond b (n ∷ filter stays ns) (filter stays ns))) (h.0.1 last.0 (not-true (is_this_param n) this.0))
    ∙ ap₂ (λ x xs. x ∷ xs) (h.0.0 last.0) (all-stay ns h.1 last.1 this.1)

list-settles : (span : Span) (ns : List Node) → AllStay ns → Settles (node_of span kind.List ns)
unfolding plain plain_kind plain_children lasts_by
list-settles span ns h l =
    let last = lasting span kind.List ns l in
    stripped-roll (record { span = span; kind = kind.List; children = ns }) ∙ ap (node_of span kind.List) (all-stay ns h last.1 last.0)

chosen-stay : (b : Bool) (n : Node) (ns : List Node) → AllStay (n ∷ []) → AllStay ns → AllStay (cond b (n ∷ ns) ns)
chosen-stay true n ns first rest = (first.0, rest)
chosen-stay false n ns first rest = rest

filter-stay : (p : Node → Bool) (ns : List Node) → AllStay ns → AllStay (filter p ns)
filter-stay p [] h = tt
filter-stay p (n ∷ ns) h = chosen-stay (p n) n (filter p ns) (h.0, tt) (filter-stay p ns h.1)

-- ---- shapes of which there are no lists of what may be a declaration or an expression

abbrev is_fine_by : Count → Sort → Bool
is_fine_by One σ = true
is_fine_by Maybe σ = true
is_fine_by _ σ = is_listed σ

abbrev is_fine : Shape → Bool
is_fine s = is_fine_by s.count s.sort

abbrev all_fine : List Shape → Bool
all_fine [] = true
all_fine (s ∷ shapes) = is_fine s && all_fine shapes

all_fine-replicate : (n : ℕ) (s : Shape) → is_fine s ≡ true → all_fine (replicate n s) ≡ true
all_fine-replicate zero s g = refl
all_fine-replicate (suc n) s g = rw (g, all_fine-replicate n s g) refl

fine-below : (k : Kind) (s : Shape) (n : ℕ) → is_other k ≡ true → all_fine (child_shapes k s n) ≡ true
fine-below kind.List s n h = absurd (no h)
fine-below kind.SeqExpr s zero h = refl
fine-below kind.SeqExpr s (suc n) h = all_fine-replicate (suc n) (one sort.Expr) refl
fine-below kind.TsTypeAnn s n h = absurd (no h)
fine-below kind.TsType s n h = absurd (no h)
fine-below kind.TsTypeParamDecl s n h = absurd (no h)
fine-below kind.TsTypeParamInstantiation s n h = absurd (no h)
fine-below _ s n h = refl

no-list-of : (σ : Sort) → belongs σ kind.List ≡ true → ⊥
no-list-of sort.Program b = cc
no-list-of _ b = cc

listed-sort : (c : Count) (σ : Sort) → is_fine_by c σ ≡ true → allows_by c σ kind.List ≡ true → is_listed σ ≡ true
listed-sort One σ f a = absurd (no-list-of σ a)
listed-sort Maybe σ f a = absurd (no-list-of σ a)
listed-sort Many σ f a = f
listed-sort MaybeMany σ f a = f
listed-sort Holes σ f a = f

single-item : (c : Count) (σ : Sort) → (is_single (item_count c) ≡ true) × (is_fine_by (item_count c) σ ≡ true)
single-item One σ = (refl, refl)
single-item Maybe σ = (refl, refl)
single-item Many σ = (refl, refl)
single-item MaybeMany σ = (refl, refl)
single-item Holes σ = (refl, refl)

-- ---- the whole tree

abbrev SettlesTwice : Node → Kind → Type 0
SettlesTwice n k = Settles n × (is_list k ≡ true → Settles (without_empty n))

abbrev Twice : Node → Type 0
Twice n = (s : Shape) → is_fine s ≡ true → has_shape_under_types n s ≡ true → SettlesTwice (stripped n) (out-Node n).kind

abbrev nodes : List ((n : Node) × Twice n) → List Node
nodes ns = map (λ e. e.0) ns

children-settle : (shapes : List Shape) (ns : List ((n : Node) × Twice n)) → all_fine shapes ≡ true → all_have_shapes shapes (map has_shape_under_types (nodes ns)) ≡ true → AllSettle (map stripped (nodes ns))
children-settle [] [] g h = tt
children-settle [] (n ∷ ns) g h = absurd (no h)
children-settle (s ∷ shapes) [] g h = absurd (no h)
children-settle (s ∷ shapes) (n ∷ ns) g h =
    let fine = both (is_fine s) (all_fine shapes) g in
    let have = both (has_shape_under_types n.0 s) (all_have_shapes shapes (map has_shape_under_types (nodes ns))) h in
    ((n.1 s fine.0 have.0).0, children-settle shapes ns fine.1 have.1)

some-same : {X : Type 0} (a b : X) → Some a ≡ Some b → a ≡ b
some-same a b e = cc

list-at : (i : ℕ) (σ : Sort) (shapes : List Shape) (ns : List ((n : Node) × Twice n)) → slice_get shapes i ≡ Some (many σ) → all_fine shapes ≡ true
    → all_have_shapes shapes (map has_shape_under_types (nodes ns)) ≡ true → AllSettle (changed_at i without_empty (map stripped (nodes ns)))
list-at i σ [] [] at g h = tt
list-at i σ [] (n ∷ ns) at g h = absurd (no h)
list-at i σ (s ∷ shapes) [] at g h = absurd (no h)
list-at zero σ (s ∷ shapes) (n ∷ ns) at g h =
    let fine = both (is_fine s) (all_fine shapes) g in
    let have = both (has_shape_under_types n.0 s) (all_have_shapes shapes (map has_shape_under_types (nodes ns))) h in
    let list = subst (λ z. has_shape_under_types n.0 z ≡ true) (some-same s (many σ) at) have.0 in
    ((n.1 s fine.0 have.0).1 (allows-under n.0 (many σ) list), children-settle shapes ns fine.1 have.1)
list-at (suc i) σ (s ∷ shapes) (n ∷ ns) at g h =
    let fine = both (is_fine s) (all_fine shapes) g in
    let have = both (has_shape_under_types n.0 s) (all_have_shapes shapes (map has_shape_under_types (nodes ns))) h in
    ((n.1 s fine.0 have.0).0, list-at i σ shapes ns at fine.1 have.1)

changed-settle : (i : ℕ) (to : Node → Node) → ((x : Node) → Settles x → Settles (to x)) → (cs : List Node) → AllSettle cs → AllSettle (changed_at i to cs)
changed-settle i to keeps [] h = tt
changed-settle zero to keeps (c ∷ cs) h = (keeps c h.0, h.1)
changed-settle (suc i) to keeps (c ∷ cs) h = (h.0, changed-settle i to keeps cs h.1)

body-settles : (x : Node) → Settles x → Settles (body_of x)
body-settles x h = by (item_stays x)
  where
    by : (b : Bool) → Settles (cond b x (node_of (out-Node x).span kind.EmptyStmt []))
    by true = h
    by false = empty-settles (out-Node x).span

this-settles : (x : Node) → Settles x → Settles (without_this x)
this-settles x h = by (is_absent (out-Node x).kind)
  where
    by : (b : Bool) → Settles (cond b x absent)
    by true = h
    by false = absent-settles

each-settles : (k : Kind) (s : Shape) (n : ℕ) (ns : List ((n : Node) × Twice n)) → all_fine (child_shapes k s n) ≡ true → all_have_shapes (child_shapes k s n) (map has_shape_under_types (nodes ns)) ≡ true
    → AllSettle (plain_children k (map stripped (nodes ns)))
unfolding plain_children
each-settles (kind.Module shebang) s n ns g h = list-at 0 sort.ModuleItem (child_shapes (kind.Module shebang) s n) ns refl g h
each-settles (kind.Script shebang) s n ns g h = list-at 0 sort.Stmt (child_shapes (kind.Script shebang) s n) ns refl g h
each-settles kind.BlockStmt s n ns g h = list-at 0 sort.Stmt (child_shapes kind.BlockStmt s n) ns refl g h
each-settles kind.TsModuleBlock s n ns g h = list-at 0 sort.ModuleItem (child_shapes kind.TsModuleBlock s n) ns refl g h
each-settles kind.SwitchCase s n ns g h = list-at 1 sort.Stmt (child_shapes kind.SwitchCase s n) ns refl g h
each-settles kind.IfStmt s n ns g h =
    changed-settle 1 body_of body-settles (changed_at 2 body_of (map stripped (nodes ns))) (changed-settle 2 body_of body-settles (map stripped (nodes ns)) (children-settle (child_shapes kind.IfStmt s n) ns g h))
each-settles kind.LabeledStmt s n ns g h = changed-settle 1 body_of body-settles (map stripped (nodes ns)) (children-settle (child_shapes kind.LabeledStmt s n) ns g h)
each-settles kind.WhileStmt s n ns g h = changed-settle 1 body_of body-settles (map stripped (nodes ns)) (children-settle (child_shapes kind.WhileStmt s n) ns g h)
each-settles kind.DoWhileStmt s n ns g h = changed-settle 1 body_of body-settles (map stripped (nodes ns)) (children-settle (child_shapes kind.DoWhileStmt s n) ns g h)
each-settles kind.ForStmt s n ns g h = changed-settle 3 body_of body-settles (map stripped (nodes ns)) (children-settle (child_shapes kind.ForStmt s n) ns g h)
each-settles kind.ForInStmt s n ns g h = changed-settle 2 body_of body-settles (map stripped (nodes ns)) (children-settle (child_shapes kind.ForInStmt s n) ns g h)
each-settles (kind.ForOfStmt is_await) s n ns g h = changed-settle 2 body_of body-settles (map stripped (nodes ns)) (children-settle (child_shapes (kind.ForOfStmt is_await) s n) ns g h)
each-settles kind.SetterProp s n ns g h = changed-settle 1 without_this this-settles (map stripped (nodes ns)) (children-settle (child_shapes kind.SetterProp s n) ns g h)
each-settles k s n ns g h = children-settle (child_shapes k s n) ns g h

-- what is left of a list
module _ (s : Shape) (fine : is_fine s ≡ true) (a : allows s kind.List ≡ true) where
  item-settles : (b : Bool) (n : (n : Node) × Twice n) (ns : List Node) → stays n.0 ≡ b → has_shape_under_types n.0 (item_shape s) ≡ true → AllStay (map stripped ns) → AllStay (map stripped (cond b (n.0 ∷ ns) ns))
  item-settles true n ns st h rest =
      let item = single-item s.count s.sort in
      (((n.1 (item_shape s) item.1 h).0, stays-again n.0 (item_shape s) item.0 (listed-sort s.count s.sort fine a) h st), rest)
  item-settles false n ns st h rest = rest

  items-settle : (ns : List ((n : Node) × Twice n)) → all_have_shapes (replicate (length (map has_shape_under_types (nodes ns))) (item_shape s)) (map has_shape_under_types (nodes ns)) ≡ true
      → AllStay (map stripped (filter stays (nodes ns)))
  items-settle [] h = tt
  items-settle (n ∷ ns) h =
      let have = both (has_shape_under_types n.0 (item_shape s)) (all_have_shapes (replicate (length (map has_shape_under_types (nodes ns))) (item_shape s)) (map has_shape_under_types (nodes ns))) h in
      item-settles (stays n.0) n (filter stays (nodes ns)) refl have.0 (items-settle ns have.1)

both-settle : (span : Span) (ns : List Node) → AllStay ns → SettlesTwice (node_of span kind.List ns) kind.List
both-settle span ns h = (list-settles span ns h, λ is. subst Settles (sym (empty-rolled span kind.List ns)) (list-settles span (filter is_there ns) (filter-stay is_there ns h)))

wrapped : (span : Span) (k : Kind) (ns : List ((n : Node) × Twice n)) (s : Shape) → is_fine s ≡ true → (allows s k && first_has (map has_shape_under_types (nodes ns)) s) ≡ true → Settles (operand span k (map stripped (nodes ns)))
wrapped span k [] s g h = absurd (no (both (allows s k) false h).1)
wrapped span k (n ∷ ns) s g h = (n.1 s g (both (allows s k) (has_shape_under_types n.0 s) h).1).0

general : (span : Span) (k : Kind) (ns : List ((n : Node) × Twice n)) (s : Shape) → is_other k ≡ true → (allows s k && all_have_shapes (asked k (nodes ns) s) (map has_shape_under_types (nodes ns))) ≡ true
    → Settles (node_of span (plain_kind k) (plain_children k (map stripped (nodes ns))))
general span k ns s o h =
    let n = length (map has_shape_under_types (nodes ns)) in
    node-settles span k (map stripped (nodes ns)) o (each-settles k s n ns (fine-below k s n o) (below k (nodes ns) s h))

list-layer : (span : Span) (ns : List ((n : Node) × Twice n)) (s : Shape) → is_fine s ≡ true → shape_under_types_by (shaped span kind.List (nodes ns)) s ≡ true
    → SettlesTwice (node_of span (plain_kind kind.List) (plain_children kind.List (map stripped (filter stays (nodes ns))))) kind.List
unfolding plain_kind plain_children
list-layer span ns s g h =
    let parts = both (allows s kind.List) (all_have_shapes (asked kind.List (nodes ns) s) (map has_shape_under_types (nodes ns))) h in
    both-settle span (map stripped (filter stays (nodes ns))) (items-settle s g parts.0 ns parts.1)

layer : (span : Span) (k : Kind) (ns : List ((n : Node) × Twice n)) (s : Shape) → is_fine s ≡ true → shape_under_types_by (shaped span k (nodes ns)) s ≡ true
    → SettlesTwice (plain span k (map stripped (staying_nodes k (nodes ns)))) k
unfolding plain
layer span kind.TsTypeAnn ns s g h = (absent-settles, λ is. absurd (no is))
layer span kind.TsType ns s g h = (absent-settles, λ is. absurd (no is))
layer span kind.TsTypeParamDecl ns s g h = (absent-settles, λ is. absurd (no is))
layer span kind.TsTypeParamInstantiation ns s g h = (absent-settles, λ is. absurd (no is))
layer span kind.TsTypeAssertion ns s g h = (wrapped span kind.TsTypeAssertion ns s g h, λ is. absurd (no is))
layer span kind.TsConstAssertion ns s g h = (wrapped span kind.TsConstAssertion ns s g h, λ is. absurd (no is))
layer span kind.TsNonNullExpr ns s g h = (wrapped span kind.TsNonNullExpr ns s g h, λ is. absurd (no is))
layer span kind.TsAsExpr ns s g h = (wrapped span kind.TsAsExpr ns s g h, λ is. absurd (no is))
layer span kind.TsInstantiation ns s g h = (wrapped span kind.TsInstantiation ns s g h, λ is. absurd (no is))
layer span kind.TsSatisfiesExpr ns s g h = (wrapped span kind.TsSatisfiesExpr ns s g h, λ is. absurd (no is))
layer span kind.List ns s g h = list-layer span ns s g h
layer span k ns s g h = (general span k ns s refl h, λ is. absurd (no is))

twice : (n : Node) → Twice n
twice = ind-Node Twice (λ x y is.
    (let parts : Node-F Node = record { span = y.span; kind = y.kind; children = nodes y.children } in
    subst (λ (z : Node-F Node). Twice (roll-Node z)) is (λ s g h.
    subst (λ z. SettlesTwice z (out-Node (roll-Node parts)).kind) (sym (stripped-roll parts))
    (subst (λ (z : Node-F Node). SettlesTwice (plain y.span y.kind (map stripped (staying_nodes y.kind (nodes y.children)))) z.kind) (sym (out-roll-Node parts))
    (layer y.span y.kind y.children s g (sym (ap (λ f. f s) (fold-roll-Node (Shape → Bool) shape_under_types_by parts)) ∙ h))))))

pub stripping_twice_is_stripping_once : StrippingTwiceIsStrippingOnce
stripping_twice_is_stripping_once tree sort h l = (twice tree (one sort) refl h).0 l
