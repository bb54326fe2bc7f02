-- Every sort is kept where types are taken out.
use Rattle.std.proofs.Common.{◌≡◌, ◌∙◌, ℕ, zero, suc, Bool, true, false, ◌&&◌, ◌||◌, not, cond, refl, sym, ap, ap₂, subst, List, [], ◌∷◌, map, filter, length, replicate, Some, slice_get}
use Rattle.ecma_kind.specs.Sorts.{belongs, is_type_wrapper}
use Rattle.ecma_kind.specs.declared.kind.Kind.{Kind}
use Rattle.ecma_kind.specs.declared.kind.Kind.TheVariants as kind
use Rattle.ecma_kind.specs.declared.span.Span.{Span}
use Rattle.ecma_kind.specs.declared.shapes.Count.{Count}
use Rattle.ecma_kind.specs.declared.shapes.Count.TheVariants.{One, Maybe, Many, MaybeMany, Holes}
use Rattle.ecma_kind.specs.declared.shapes.Shape.{Shape}
use Rattle.ecma_kind.specs.declared.shapes.Sort.{Sort}
use Rattle.ecma_kind.specs.declared.shapes.Sort.TheVariants as sort
use Rattle.ecma_tree.specs.Laws.{HaveShapes}
use Rattle.ecma_tree.specs.Nodes.{absent, dummy_span, node_of}
use Rattle.ecma_tree.specs.Sorted.{HasShape, all_have_shapes, allows, allows_by, child_shapes, has_shape_by, is_absent, is_list, item_shape, many, maybe, one}
use Rattle.ecma_tree.specs.declared.node.Node.{Node, Node-F, fold-roll-Node, fold_out-Node, ind-Node, out-Node, roll-Node}
use Rattle.ecma_tree.specs.declared.node.Node.TheViews.{roll-out-Node}
use Rattle.ecma_tree.proofs.ShapeLaws.{node_has_shape}
use Rattle.ecma_strip.specs.Laws.{SortsAreKept, first_has, has_shape_under_types, is_type_sort, shape_under_types_by}
use Rattle.ecma_strip.specs.Staying.{is_empty_stmt, is_this_param, item_stays, member_stays, specifier_stays, stays}
use Rattle.ecma_strip.specs.Stripping.{body_of, changed_at, operand, plain, plain_children, plain_kind, staying_nodes, stripped, without_empty, without_this}
use Rattle.ecma_strip.proofs.Stripping.{stripped-roll}

pub both : (a b : Bool) → (a && b) ≡ true → (a ≡ true) × (b ≡ true)
both true b h = (refl, h)
both false b h = cc

-- shapes that a node without types may have: it need not be a type
abbrev pub good_by : Count → Sort → Bool
good_by Maybe σ = true
good_by Many sort.TsType = true
good_by c σ = not (is_type_sort σ)

abbrev pub good : Shape → Bool
good s = good_by s.count s.sort

abbrev pub all_good : List Shape → Bool
all_good [] = true
all_good (s ∷ shapes) = good s && all_good shapes

all_good-replicate : (n : ℕ) (s : Shape) → good s ≡ true → all_good (replicate n s) ≡ true
all_good-replicate zero s g = refl
all_good-replicate (suc n) s g = rw (g, all_good-replicate n s g) refl

-- a type is of no sort but one of types
only-annotations : (σ : Sort) → belongs σ kind.TsTypeAnn ≡ true → is_type_sort σ ≡ true
only-annotations sort.TsTypeAnn h = refl
only-annotations _ h = cc

only-types : (σ : Sort) → belongs σ kind.TsType ≡ true → is_type_sort σ ≡ true
only-types sort.TsType h = refl
only-types _ h = cc

only-parameters : (σ : Sort) → belongs σ kind.TsTypeParamDecl ≡ true → is_type_sort σ ≡ true
only-parameters sort.TsTypeParamDecl h = refl
only-parameters _ h = cc

only-arguments : (σ : Sort) → belongs σ kind.TsTypeParamInstantiation ≡ true → is_type_sort σ ≡ true
only-arguments sort.TsTypeParamInstantiation h = refl
only-arguments _ h = cc

not-true : (b : Bool) → not b ≡ true → b ≡ true → ⊥
not-true true h k = cc
not-true false h k = cc

-- so where a type may stand and need not, it may be missing
module _ (k : Kind) (only : (σ : Sort) → belongs σ k ≡ true → is_type_sort σ ≡ true) (no_list : is_list k ≡ false) where
  absent-allowed : (c : Count) (σ : Sort) → good_by c σ ≡ true → allows_by c σ k ≡ true → allows_by c σ kind.Absent ≡ true
  absent-allowed One σ g h = absurd (not-true (is_type_sort σ) g (only σ h))
  absent-allowed Maybe σ g h = refl
  absent-allowed Many σ g h = let e : false ≡ true = sym no_list ∙ h in cc
  absent-allowed MaybeMany σ g h = refl
  absent-allowed Holes σ g h = let e : false ≡ true = sym no_list ∙ h in cc

  absent-has : (s : Shape) (others : Bool) → good s ≡ true → (allows s k && others) ≡ true → HasShape s absent
  absent-has s others g h = (node_has_shape dummy_span kind.Absent [] s).1 (absent-allowed s.count s.sort g (both (allows s k) others h).0, tt)

-- the shapes of a node are those of its kind without what its own data says of types
module _ (k l : Kind) (is : (σ : Sort) → belongs σ k ≡ belongs σ l) (no_absent : is_absent k ≡ is_absent l) (no_list : is_list k ≡ is_list l) where
  allowed-by : (c : Count) (σ : Sort) → allows_by c σ k ≡ allows_by c σ l
  allowed-by One σ = is σ
  allowed-by Maybe σ = ap₂ (λ a b. a || b) no_absent (is σ)
  allowed-by Many σ = no_list
  allowed-by MaybeMany σ = ap₂ (λ a b. a || b) no_absent no_list
  allowed-by Holes σ = no_list

belongs-plain : (k : Kind) (σ : Sort) → belongs σ (plain_kind k) ≡ belongs σ k
unfolding plain_kind
belongs-plain (kind.Ident sym ctxt optional) sort.Program = refl
belongs-plain (kind.Ident sym ctxt optional) _ = refl
belongs-plain (kind.ArrayPat optional) sort.Program = refl
belongs-plain (kind.ArrayPat optional) _ = refl
belongs-plain (kind.ObjectPat optional) sort.Program = refl
belongs-plain (kind.ObjectPat optional) _ = refl
belongs-plain (kind.VarDeclarator definite) sort.Program = refl
belongs-plain (kind.VarDeclarator definite) _ = refl
belongs-plain (kind.Class is_abstract) sort.Program = refl
belongs-plain (kind.Class is_abstract) _ = refl
belongs-plain (kind.Constructor accessibility is_optional) sort.Program = refl
belongs-plain (kind.Constructor accessibility is_optional) _ = refl
belongs-plain (kind.ClassMethod k modifiers) sort.Program = refl
belongs-plain (kind.ClassMethod k modifiers) _ = refl
belongs-plain (kind.PrivateMethod k modifiers) sort.Program = refl
belongs-plain (kind.PrivateMethod k modifiers) _ = refl
belongs-plain (kind.ClassProp modifiers readonly declare definite) sort.Program = refl
belongs-plain (kind.ClassProp modifiers readonly declare definite) _ = refl
belongs-plain (kind.PrivateProp modifiers readonly declare definite) sort.Program = refl
belongs-plain (kind.PrivateProp modifiers readonly declare definite) _ = refl
belongs-plain _ σ = refl

absent-plain : (k : Kind) → is_absent (plain_kind k) ≡ is_absent k
unfolding plain_kind
absent-plain kind.Absent = refl
absent-plain _ = refl

list-plain : (k : Kind) → is_list (plain_kind k) ≡ is_list k
unfolding plain_kind
list-plain kind.Absent = refl
list-plain _ = refl

plain-allowed : (k : Kind) (s : Shape) → allows s (plain_kind k) ≡ allows s k
plain-allowed k s = allowed-by (plain_kind k) k (belongs-plain k) (absent-plain k) (list-plain k) s.count s.sort

plain-asked : (k : Kind) (s : Shape) (n : ℕ) → child_shapes (plain_kind k) s n ≡ child_shapes k s n
unfolding plain_kind
plain-asked kind.Absent s n = refl
plain-asked _ s n = refl

-- a change of one child that keeps its shape keeps the shapes of all
changed_at-keeps : (i : ℕ) (to : Node → Node) (shapes : List Shape) (cs : List Node) → HaveShapes shapes cs
    → ((x : Node) (s : Shape) → slice_get shapes i ≡ Some s → HasShape s x → HasShape s (to x)) → HaveShapes shapes (changed_at i to cs)
changed_at-keeps i to [] [] h keeps = tt
changed_at-keeps i to [] (c ∷ cs) h keeps = absurd h
changed_at-keeps i to (s ∷ shapes) [] h keeps = absurd h
changed_at-keeps zero to (s ∷ shapes) (c ∷ cs) h keeps = (keeps c s refl h.0, h.1)
changed_at-keeps (suc i) to (s ∷ shapes) (c ∷ cs) h keeps = (h.0, changed_at-keeps i to shapes cs h.1 keeps)

length-changed_at : (i : ℕ) (to : Node → Node) (cs : List Node) → length (changed_at i to cs) ≡ length cs
length-changed_at i to [] = refl
length-changed_at zero to (c ∷ cs) = refl
length-changed_at (suc i) to (c ∷ cs) = ap suc (length-changed_at i to cs)

module _ (p : Node → Bool) (t : Shape) where
  chosen : (b : Bool) (c : Node) (cs : List Node) → HasShape t c → HaveShapes (replicate (length cs) t) cs
      → HaveShapes (replicate (length (cond b (c ∷ cs) cs)) t) (cond b (c ∷ cs) cs)
  chosen true c cs first rest = (first, rest)
  chosen false c cs first rest = rest

  filter-keeps : (cs : List Node) → HaveShapes (replicate (length cs) t) cs → HaveShapes (replicate (length (filter p cs)) t) (filter p cs)
  filter-keeps [] h = tt
  filter-keeps (c ∷ cs) h = chosen (p c) c (filter p cs) h.0 (filter-keeps cs h.1)

pub list-kind : (k : Kind) → is_list k ≡ true → k ≡ kind.List
list-kind kind.List h = refl
list-kind _ h = cc

-- a list of statements keeps its shape without empty statements
without_empty-keeps : (σ : Sort) (x : Node) → HasShape (many σ) x → HasShape (many σ) (without_empty x)
without_empty-keeps σ x h =
    let parts = (node_has_shape (out-Node x).span (out-Node x).kind (out-Node x).children (many σ)).0 (subst (HasShape (many σ)) (sym (roll-out-Node x)) h) in
    let is : (out-Node x).kind ≡ kind.List = list-kind (out-Node x).kind parts.0 in
    let items = filter-keeps (λ (n : Node). not (is_empty_stmt (out-Node n).kind)) (one σ) (out-Node x).children
    (subst (λ k. HaveShapes (child_shapes k (many σ) (length (out-Node x).children)) (out-Node x).children) is parts.1) in
    subst (λ k. HasShape (many σ) (node_of (out-Node x).span k (filter (λ (n : Node). not (is_empty_stmt (out-Node n).kind)) (out-Node x).children))) (sym is)
    ((node_has_shape (out-Node x).span kind.List (filter (λ (n : Node). not (is_empty_stmt (out-Node n).kind)) (out-Node x).children) (many σ)).1 (refl, items))

empty_stmt-has : (s : Shape) (span : Span) → allows s kind.EmptyStmt ≡ true → HasShape s (node_of span kind.EmptyStmt [])
empty_stmt-has s span h = (node_has_shape span kind.EmptyStmt [] s).1 (h, tt)

-- the body of a statement stays a statement
body_of-keeps : (s : Shape) (x : Node) → allows s kind.EmptyStmt ≡ true → HasShape s x → HasShape s (body_of x)
body_of-keeps s x allowed h = by (item_stays x)
  where
    by : (b : Bool) → HasShape s (cond b x (node_of (out-Node x).span kind.EmptyStmt []))
    by true = h
    by false = empty_stmt-has s (out-Node x).span allowed

some-same : {X : Type 0} (a b : X) → Some a ≡ Some b → a ≡ b
some-same a b e = cc

-- what becomes of the children by the node's kind keeps their shapes
at-list : (i : ℕ) (shapes : List Shape) (σ : Sort) (cs : List Node) → slice_get shapes i ≡ Some (many σ) → HaveShapes shapes cs → HaveShapes shapes (changed_at i without_empty cs)
at-list i shapes σ cs is h = changed_at-keeps i without_empty shapes cs h (λ x s at has.
    (let same : many σ ≡ s = some-same (many σ) s (sym is ∙ at) in subst (λ z. HasShape z x → HasShape z (without_empty x)) same (without_empty-keeps σ x) has))

at-body : (i : ℕ) (shapes : List Shape) (t : Shape) (cs : List Node) → slice_get shapes i ≡ Some t → allows t kind.EmptyStmt ≡ true → HaveShapes shapes cs → HaveShapes shapes (changed_at i body_of cs)
at-body i shapes t cs is allowed h = changed_at-keeps i body_of shapes cs h (λ x s at has.
    (let same : t ≡ s = some-same t s (sym is ∙ at) in body_of-keeps s x (subst (λ z. allows z kind.EmptyStmt ≡ true) same allowed) has))

without_this-keeps : (s : Shape) (x : Node) → allows s kind.Absent ≡ true → HasShape s x → HasShape s (without_this x)
without_this-keeps s x allowed h = by (is_absent (out-Node x).kind)
  where
    by : (b : Bool) → HasShape s (cond b x absent)
    by true = h
    by false = (node_has_shape dummy_span kind.Absent [] s).1 (allowed, tt)

at-this : (i : ℕ) (shapes : List Shape) (t : Shape) (cs : List Node) → slice_get shapes i ≡ Some t → allows t kind.Absent ≡ true → HaveShapes shapes cs → HaveShapes shapes (changed_at i without_this cs)
at-this i shapes t cs is allowed h = changed_at-keeps i without_this shapes cs h (λ x s at has.
    (let same : t ≡ s = some-same t s (sym is ∙ at) in without_this-keeps s x (subst (λ z. allows z kind.Absent ≡ true) same allowed) has))

children-keep : (k : Kind) (s : Shape) (n : ℕ) (cs : List Node) → HaveShapes (child_shapes k s n) cs → HaveShapes (child_shapes k s n) (plain_children k cs)
unfolding plain_children
children-keep (kind.Module shebang) s n cs h = at-list 0 (child_shapes (kind.Module shebang) s n) sort.ModuleItem cs refl h
children-keep (kind.Script shebang) s n cs h = at-list 0 (child_shapes (kind.Script shebang) s n) sort.Stmt cs refl h
children-keep kind.BlockStmt s n cs h = at-list 0 (child_shapes kind.BlockStmt s n) sort.Stmt cs refl h
children-keep kind.TsModuleBlock s n cs h = at-list 0 (child_shapes kind.TsModuleBlock s n) sort.ModuleItem cs refl h
children-keep kind.SwitchCase s n cs h = at-list 1 (child_shapes kind.SwitchCase s n) sort.Stmt cs refl h
children-keep kind.IfStmt s n cs h =
    at-body 1 (child_shapes kind.IfStmt s n) (one sort.Stmt) (changed_at 2 body_of cs) refl refl (at-body 2 (child_shapes kind.IfStmt s n) (maybe sort.Stmt) cs refl refl h)
children-keep kind.LabeledStmt s n cs h = at-body 1 (child_shapes kind.LabeledStmt s n) (one sort.Stmt) cs refl refl h
children-keep kind.WhileStmt s n cs h = at-body 1 (child_shapes kind.WhileStmt s n) (one sort.Stmt) cs refl refl h
children-keep kind.DoWhileStmt s n cs h = at-body 1 (child_shapes kind.DoWhileStmt s n) (one sort.Stmt) cs refl refl h
children-keep kind.ForStmt s n cs h = at-body 3 (child_shapes kind.ForStmt s n) (one sort.Stmt) cs refl refl h
children-keep kind.ForInStmt s n cs h = at-body 2 (child_shapes kind.ForInStmt s n) (one sort.Stmt) cs refl refl h
children-keep (kind.ForOfStmt is_await) s n cs h = at-body 2 (child_shapes (kind.ForOfStmt is_await) s n) (one sort.Stmt) cs refl refl h
children-keep kind.SetterProp s n cs h = at-this 1 (child_shapes kind.SetterProp s n) (maybe sort.Pat) cs refl refl h
children-keep _ s n cs h = h

length-plain : (k : Kind) (cs : List Node) → length (plain_children k cs) ≡ length cs
unfolding plain_children
length-plain (kind.Module shebang) cs = length-changed_at 0 without_empty cs
length-plain (kind.Script shebang) cs = length-changed_at 0 without_empty cs
length-plain kind.BlockStmt cs = length-changed_at 0 without_empty cs
length-plain kind.TsModuleBlock cs = length-changed_at 0 without_empty cs
length-plain kind.SwitchCase cs = length-changed_at 1 without_empty cs
length-plain kind.IfStmt cs = length-changed_at 1 body_of (changed_at 2 body_of cs) ∙ length-changed_at 2 body_of cs
length-plain kind.LabeledStmt cs = length-changed_at 1 body_of cs
length-plain kind.WhileStmt cs = length-changed_at 1 body_of cs
length-plain kind.DoWhileStmt cs = length-changed_at 1 body_of cs
length-plain kind.ForStmt cs = length-changed_at 3 body_of cs
length-plain kind.ForInStmt cs = length-changed_at 2 body_of cs
length-plain (kind.ForOfStmt is_await) cs = length-changed_at 2 body_of cs
length-plain kind.SetterProp cs = length-changed_at 1 without_this cs
length-plain _ cs = refl

-- a node is plain once its children have their shapes
plain-has : (span : Span) (k : Kind) (s : Shape) (cs : List Node) → allows s k ≡ true → HaveShapes (child_shapes k s (length cs)) cs → HasShape s (node_of span (plain_kind k) (plain_children k cs))
plain-has span k s cs allowed have =
    (node_has_shape span (plain_kind k) (plain_children k cs) s).1 (
      plain-allowed k s ∙ allowed,
      subst (λ n. HaveShapes (child_shapes (plain_kind k) s n) (plain_children k cs)) (sym (length-plain k cs))
          (subst (λ z. HaveShapes z (plain_children k cs)) (sym (plain-asked k s (length cs))) (children-keep k s (length cs) cs have)),
    )

-- the kinds of which a child must be a type
is_special : Kind → Bool
is_special kind.TsTypeAnn = true
is_special kind.List = true
is_special k = is_type_wrapper k

good-below : (k : Kind) (s : Shape) (n : ℕ) → is_special k ≡ false → all_good (child_shapes k s n) ≡ true
unfolding is_special
good-below kind.TsTypeAnn s n h = cc
good-below kind.List s n h = cc
good-below kind.TsTypeAssertion s n h = cc
good-below kind.TsConstAssertion s n h = cc
good-below kind.TsNonNullExpr s n h = cc
good-below kind.TsAsExpr s n h = cc
good-below kind.TsInstantiation s n h = cc
good-below kind.TsSatisfiesExpr s n h = cc
good-below kind.SeqExpr s zero h = refl
good-below kind.SeqExpr s (suc n) h = all_good-replicate (suc n) (one sort.Expr) refl
good-below _ s n h = refl

allows-under-by : (b : Bool) (a c d : Bool) → cond b (a && c) (a && d) ≡ true → a ≡ true
allows-under-by true a c d h = (both a c h).0
allows-under-by false a c d h = (both a d h).0

pub allows-under : (x : Node) (s : Shape) → has_shape_under_types x s ≡ true → allows s (out-Node x).kind ≡ true
allows-under x s h =
    let children = map has_shape_under_types (out-Node x).children in
    allows-under-by (is_type_wrapper (out-Node x).kind) (allows s (out-Node x).kind) (first_has children s) (all_have_shapes (child_shapes (out-Node x).kind s (length children)) children)
    (sym (ap (λ f. f s) (fold_out-Node (Shape → Bool) shape_under_types_by x)) ∙ h)

pub stays-specifier : (x : Node) → stays x ≡ true → specifier_stays (out-Node x).kind ≡ true
unfolding stays
stays-specifier x h =
    let first = both ((item_stays x && member_stays x) && specifier_stays (out-Node x).kind) (not (is_this_param x)) h in
    (both (item_stays x && member_stays x) (specifier_stays (out-Node x).kind) first.0).1

no-type-stays : (k : Kind) → belongs sort.TsType k ≡ true → specifier_stays k ≡ true → ⊥
unfolding specifier_stays
no-type-stays kind.TsType b h = cc
no-type-stays _ b h = cc

no-list-of : (σ : Sort) → belongs σ kind.List ≡ true → ⊥
no-list-of sort.Program b = cc
no-list-of _ b = cc

good-item-by : (c : Count) (σ : Sort) (x : Node) → good_by c σ ≡ true → allows_by c σ kind.List ≡ true → stays x ≡ true → has_shape_under_types x (item_shape (record { count = c; sort = σ })) ≡ true
    → good (item_shape (record { count = c; sort = σ })) ≡ true
good-item-by One σ x g a st h = absurd (no-list-of σ a)
good-item-by Maybe σ x g a st h = absurd (no-list-of σ a)
good-item-by Many sort.TsType x g a st h = absurd (no-type-stays (out-Node x).kind (allows-under x (one sort.TsType) h) (stays-specifier x st))
good-item-by Many _ x g a st h = g
good-item-by MaybeMany σ x g a st h = g
good-item-by Holes σ x g a st h = refl

abbrev pub Kept : Node → Type 0
Kept n = (s : Shape) → good s ≡ true → has_shape_under_types n s ≡ true → HasShape s (stripped n)

abbrev nodes : List ((n : Node) × Kept n) → List Node
nodes ns = map (λ e. e.0) ns

children-kept : (shapes : List Shape) (ns : List ((n : Node) × Kept n)) → all_good shapes ≡ true → all_have_shapes shapes (map has_shape_under_types (nodes ns)) ≡ true → HaveShapes shapes (map stripped (nodes ns))
children-kept [] [] g h = tt
children-kept [] (n ∷ ns) g h = cc
children-kept (s ∷ shapes) [] g h = cc
children-kept (s ∷ shapes) (n ∷ ns) g h =
    let goods = both (good s) (all_good shapes) g in
    let have = both (has_shape_under_types n.0 s) (all_have_shapes shapes (map has_shape_under_types (nodes ns))) h in
    (n.1 s goods.0 have.0, children-kept shapes ns goods.1 have.1)

-- what stays of a list keeps the shape of its items
module _ (s : Shape) (g : good s ≡ true) (a : allows s kind.List ≡ true) where
  item-kept : (b : Bool) (n : (n : Node) × Kept n) (cs : List Node) → stays n.0 ≡ b → has_shape_under_types n.0 (item_shape s) ≡ true
      → HaveShapes (replicate (length (map stripped cs)) (item_shape s)) (map stripped cs)
      → HaveShapes (replicate (length (map stripped (cond b (n.0 ∷ cs) cs))) (item_shape s)) (map stripped (cond b (n.0 ∷ cs) cs))
  item-kept true n cs st h rest = (n.1 (item_shape s) (good-item-by s.count s.sort n.0 g a st h) h, rest)
  item-kept false n cs st h rest = rest

  items-kept : (ns : List ((n : Node) × Kept n)) → all_have_shapes (replicate (length (map has_shape_under_types (nodes ns))) (item_shape s)) (map has_shape_under_types (nodes ns)) ≡ true
      → HaveShapes (replicate (length (map stripped (filter stays (nodes ns)))) (item_shape s)) (map stripped (filter stays (nodes ns)))
  items-kept [] h = tt
  items-kept (n ∷ ns) h =
      let have = both (has_shape_under_types n.0 (item_shape s)) (all_have_shapes (replicate (length (map has_shape_under_types (nodes ns))) (item_shape s)) (map has_shape_under_types (nodes ns))) h in
      item-kept (stays n.0) n (filter stays (nodes ns)) refl have.0 (items-kept ns have.1)

lengths : (ns : List ((n : Node) × Kept n)) → length (map has_shape_under_types (nodes ns)) ≡ length (map stripped (nodes ns))
lengths [] = refl
lengths (n ∷ ns) = ap suc (lengths ns)

general : (span : Span) (k : Kind) (ns : List ((n : Node) × Kept n)) (s : Shape) → is_special k ≡ false
    → has_shape_by (record { span = span; kind = k; children = map has_shape_under_types (nodes ns) }) s ≡ true → HasShape s (node_of span (plain_kind k) (plain_children k (map stripped (nodes ns))))
general span k ns s special h =
    let n = length (map has_shape_under_types (nodes ns)) in
    let parts = both (allows s k) (all_have_shapes (child_shapes k s n) (map has_shape_under_types (nodes ns))) h in
    plain-has span k s (map stripped (nodes ns)) parts.0
    (subst (λ m. HaveShapes (child_shapes k s m) (map stripped (nodes ns))) (lengths ns) (children-kept (child_shapes k s n) ns (good-below k s n special) parts.1))

wrapped : (k : Kind) (ns : List ((n : Node) × Kept n)) (s : Shape) (span : Span) → good s ≡ true
    → (allows s k && first_has (map has_shape_under_types (nodes ns)) s) ≡ true → HasShape s (operand span k (map stripped (nodes ns)))
wrapped k [] s span g h = let no : false ≡ true = (both (allows s k) false h).1 in cc
wrapped k (n ∷ ns) s span g h = n.1 s g (both (allows s k) (has_shape_under_types n.0 s) h).1

typed : (k : Kind) (ns : List ((n : Node) × Kept n)) (s : Shape) → Bool
typed k ns s = all_have_shapes (child_shapes k s (length (map has_shape_under_types (nodes ns)))) (map has_shape_under_types (nodes ns))

layer : (span : Span) (k : Kind) (ns : List ((n : Node) × Kept n)) (s : Shape) → good s ≡ true
    → shape_under_types_by (record { span = span; kind = k; children = map has_shape_under_types (nodes ns) }) s ≡ true → HasShape s (plain span k (map stripped (staying_nodes k (nodes ns))))
unfolding plain plain_kind plain_children is_special typed
layer span kind.TsTypeAnn ns s g h = absent-has kind.TsTypeAnn only-annotations refl s (typed kind.TsTypeAnn ns s) g h
layer span kind.TsType ns s g h = absent-has kind.TsType only-types refl s (typed kind.TsType ns s) g h
layer span kind.TsTypeParamDecl ns s g h = absent-has kind.TsTypeParamDecl only-parameters refl s (typed kind.TsTypeParamDecl ns s) g h
layer span kind.TsTypeParamInstantiation ns s g h = absent-has kind.TsTypeParamInstantiation only-arguments refl s (typed kind.TsTypeParamInstantiation ns s) g h
layer span kind.TsTypeAssertion ns s g h = wrapped kind.TsTypeAssertion ns s span g h
layer span kind.TsConstAssertion ns s g h = wrapped kind.TsConstAssertion ns s span g h
layer span kind.TsNonNullExpr ns s g h = wrapped kind.TsNonNullExpr ns s span g h
layer span kind.TsAsExpr ns s g h = wrapped kind.TsAsExpr ns s span g h
layer span kind.TsInstantiation ns s g h = wrapped kind.TsInstantiation ns s span g h
layer span kind.TsSatisfiesExpr ns s g h = wrapped kind.TsSatisfiesExpr ns s span g h
layer span kind.List ns s g h =
    let parts = both (allows s kind.List) (all_have_shapes (replicate (length (map has_shape_under_types (nodes ns))) (item_shape s)) (map has_shape_under_types (nodes ns))) h in
    (node_has_shape span kind.List (map stripped (filter stays (nodes ns))) s).1 (parts.0, items-kept s g parts.0 ns parts.1)
layer span k ns s g h = general span k ns s refl h

kept : (n : Node) → Kept n
kept = ind-Node Kept (λ x y is.
    (let parts : Node-F Node = record { span = y.span; kind = y.kind; children = nodes y.children } in
    subst (λ (z : Node-F Node). Kept (roll-Node z)) is (λ s g h.
    subst (HasShape s) (sym (stripped-roll parts)) (layer y.span y.kind y.children s g (sym (ap (λ f. f s) (fold-roll-Node (Shape → Bool) shape_under_types_by parts)) ∙ h)))))

pub sorts_are_kept : SortsAreKept
sorts_are_kept tree sort g h = kept tree (one sort) (ap not g) h
