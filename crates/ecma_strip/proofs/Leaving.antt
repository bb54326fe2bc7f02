-- No type part is left in the tree without its types.
use Rattle.std.proofs.Common.{◌≡◌, ◌∙◌, ℕ, zero, suc, Bool, true, false, ◌&&◌, ◌||◌, not, cond, refl, sym, ap, subst, List, [], ◌∷◌, map, filter, length, replicate, Some, slice_get}
use Rattle.ecma_kind.specs.Sorts.{belongs}
use Rattle.ecma_kind.specs.declared.kind.Kind.{Kind}
use Rattle.ecma_kind.specs.declared.kind.Kind.TheVariants as kind
use Rattle.ecma_kind.specs.declared.span.Span.{Span}
use Rattle.ecma_kind.specs.declared.shapes.Count.{Count}
use Rattle.ecma_kind.specs.declared.shapes.Count.TheVariants.{One, Maybe, Many, MaybeMany, Holes}
use Rattle.ecma_kind.specs.declared.shapes.Shape.{Shape}
use Rattle.ecma_kind.specs.declared.shapes.Sort.{Sort}
use Rattle.ecma_kind.specs.declared.shapes.Sort.TheVariants as sort
use Rattle.ecma_tree.specs.Finding.{enters_all, finds, finds_from, finds_here}
use Rattle.ecma_tree.specs.Nodes.{absent}
use Rattle.ecma_tree.specs.Sorted.{all_have_shapes, allows, allows_by, child_shapes, is_absent, item_shape, maybe, one}
use Rattle.ecma_tree.specs.declared.node.Node.{Node, Node-F, fold-roll-Node, fold_out-Node, ind-Node, out-Node, roll-Node}
use Rattle.ecma_tree.specs.declared.node.Node.TheViews.{out-roll-Node}
use Rattle.ecma_strip.specs.Laws.{NoTypesAreLeft, first_has, has_shape_under_types, is_item_sort, is_type_part, shape_under_types_by}
use Rattle.ecma_strip.specs.Staying.{if_there, is_empty_stmt, stays}
use Rattle.ecma_strip.specs.Stripping.{body_of, changed_at, operand, plain, plain_children, plain_kind, staying_nodes, stripped, without_empty, without_this}
use Rattle.ecma_strip.proofs.Sorting.{allows-under, both}
use Rattle.ecma_strip.proofs.Soundness.{AllClean, Clean, absent-clean, calm, calm_by, calm-sound, clean-roll, dropped_item, is_interface, stays-sound, stripped-body, unsound, unsound_by}
use Rattle.ecma_strip.proofs.Stripping.{stripped-roll}

abbrev Left : Node → Type 0
Left n = (s : Shape) → has_shape_under_types n s ≡ true → unsound n ≡ false → Clean (stripped n)

abbrev nodes : List ((n : Node) × Left n) → List Node
nodes ns = map (λ e. e.0) ns

abbrev all_calm : List Shape → Bool
all_calm [] = true
all_calm (s ∷ shapes) = calm s && all_calm shapes

sound-child : (x : Node) (s : Shape) → calm s ≡ true → has_shape_under_types x s ≡ true → unsound x ≡ false
sound-child x s g h = calm-sound (out-Node x).kind (out-Node x).children s.count s.sort g (allows-under x s h)

children-clean : (shapes : List Shape) (ns : List ((n : Node) × Left n)) → all_calm shapes ≡ true → all_have_shapes shapes (map has_shape_under_types (nodes ns)) ≡ true → AllClean (map stripped (nodes ns))
children-clean [] [] g h = tt
children-clean [] (n ∷ ns) g h = cc
children-clean (s ∷ shapes) [] g h = cc
children-clean (s ∷ shapes) (n ∷ ns) g h =
    let calms = both (calm s) (all_calm shapes) g in
    let have = both (has_shape_under_types n.0 s) (all_have_shapes shapes (map has_shape_under_types (nodes ns))) h in
    (n.1 s have.0 (sound-child n.0 s calms.0 have.0), children-clean shapes ns calms.1 have.1)

abbrev calm_but : ℕ → List Shape → Bool
calm_but i [] = true
calm_but zero (s ∷ shapes) = all_calm shapes
calm_but (suc i) (s ∷ shapes) = calm s && calm_but i shapes

some-same : {X : Type 0} (a b : X) → Some a ≡ Some b → a ≡ b
some-same a b e = cc

or-right : (a b : Bool) → b ≡ true → (a || b) ≡ true
or-right true b h = refl
or-right false b h = h

one-body : (n : (n : Node) × Left n) → has_shape_under_types n.0 (one sort.Stmt) ≡ true → Clean (body_of (stripped n.0))
one-body n h =
    stripped-body n.0 (or-right (is_absent (out-Node n.0).kind) (belongs sort.Stmt (out-Node n.0).kind) (allows-under n.0 (one sort.Stmt) h)) (n.1 (one sort.Stmt) h)

maybe-body : (n : (n : Node) × Left n) → has_shape_under_types n.0 (maybe sort.Stmt) ≡ true → Clean (body_of (stripped n.0))
maybe-body n h = stripped-body n.0 (allows-under n.0 (maybe sort.Stmt) h) (n.1 (maybe sort.Stmt) h)

-- the children of a statement with a body at this index
at-clean : (i : ℕ) (shapes : List Shape) (ns : List ((n : Node) × Left n)) → calm_but i shapes ≡ true → slice_get shapes i ≡ Some (one sort.Stmt)
    → all_have_shapes shapes (map has_shape_under_types (nodes ns)) ≡ true → AllClean (changed_at i body_of (map stripped (nodes ns)))
at-clean i [] [] g at h = tt
at-clean i [] (n ∷ ns) g at h = cc
at-clean i (s ∷ shapes) [] g at h = cc
at-clean zero (s ∷ shapes) (n ∷ ns) g at h =
    let have = both (has_shape_under_types n.0 s) (all_have_shapes shapes (map has_shape_under_types (nodes ns))) h in
    (one-body n (subst (λ z. has_shape_under_types n.0 z ≡ true) (some-same s (one sort.Stmt) at) have.0), children-clean shapes ns g have.1)
at-clean (suc i) (s ∷ shapes) (n ∷ ns) g at h =
    let calms = both (calm s) (calm_but i shapes) g in
    let have = both (has_shape_under_types n.0 s) (all_have_shapes shapes (map has_shape_under_types (nodes ns))) h in
    (n.1 s have.0 (sound-child n.0 s calms.0 have.0), at-clean i shapes ns calms.1 at have.1)

-- those of `if`, with its two bodies
if-clean : (ns : List ((n : Node) × Left n)) → all_have_shapes (child_shapes kind.IfStmt (one sort.Stmt) 0) (map has_shape_under_types (nodes ns)) ≡ true
    → AllClean (changed_at 1 body_of (changed_at 2 body_of (map stripped (nodes ns))))
if-clean [] h = cc
if-clean (t ∷ []) h = let no : false ≡ true = (both (has_shape_under_types t.0 (one sort.Expr)) false h).1 in cc
if-clean (t ∷ c ∷ []) h =
    let first = both (has_shape_under_types t.0 (one sort.Expr)) (has_shape_under_types c.0 (one sort.Stmt) && false) h in
    let no : false ≡ true = (both (has_shape_under_types c.0 (one sort.Stmt)) false first.1).1 in cc
if-clean (t ∷ c ∷ a ∷ []) h =
    let first = both (has_shape_under_types t.0 (one sort.Expr)) (has_shape_under_types c.0 (one sort.Stmt) && (has_shape_under_types a.0 (maybe sort.Stmt) && true)) h in
    let second = both (has_shape_under_types c.0 (one sort.Stmt)) (has_shape_under_types a.0 (maybe sort.Stmt) && true) first.1 in
    let third = both (has_shape_under_types a.0 (maybe sort.Stmt)) true second.1 in
    (t.1 (one sort.Expr) first.0 (sound-child t.0 (one sort.Expr) refl first.0), (one-body c second.0, (maybe-body a third.0, tt)))
if-clean (t ∷ c ∷ a ∷ n ∷ ns) h =
    let first = both (has_shape_under_types t.0 (one sort.Expr)) (has_shape_under_types c.0 (one sort.Stmt) && (has_shape_under_types a.0 (maybe sort.Stmt) && false)) h in
    let second = both (has_shape_under_types c.0 (one sort.Stmt)) (has_shape_under_types a.0 (maybe sort.Stmt) && false) first.1 in
    let no : false ≡ true = (both (has_shape_under_types a.0 (maybe sort.Stmt)) false second.1).1 in cc

-- what becomes of clean children by the node's kind
changed-clean : (i : ℕ) (to : Node → Node) (cs : List Node) → ((x : Node) → Clean x → Clean (to x)) → AllClean cs → AllClean (changed_at i to cs)
changed-clean i to [] keeps h = tt
changed-clean zero to (c ∷ cs) keeps h = (keeps c h.0, h.1)
changed-clean (suc i) to (c ∷ cs) keeps h = (h.0, changed-clean i to cs keeps h.1)

or-false : (a b : Bool) → (a || b) ≡ false → (a ≡ false) × (b ≡ false)
or-false true b h = cc
or-false false b h = (refl, h)

clean-all : (k : Kind) (ns : List Node) (i : ℕ) → finds_from (enters_all k) i (map (finds is_type_part enters_all) ns) ≡ false → AllClean ns
clean-all k [] i h = tt
clean-all k (n ∷ ns) i h =
    let parts = or-false (finds is_type_part enters_all n) (finds_from (enters_all k) (suc i) (map (finds is_type_part enters_all) ns)) h in
    (parts.0, clean-all k ns (suc i) parts.1)

chosen-clean : (b : Bool) (c : Node) (cs : List Node) → Clean c → AllClean cs → AllClean (cond b (c ∷ cs) cs)
chosen-clean true c cs first rest = (first, rest)
chosen-clean false c cs first rest = rest

filter-clean : (p : Node → Bool) (cs : List Node) → AllClean cs → AllClean (filter p cs)
filter-clean p [] h = tt
filter-clean p (c ∷ cs) h = chosen-clean (p c) c (filter p cs) h.0 (filter-clean p cs h.1)

without_empty-clean : (x : Node) → Clean x → Clean (without_empty x)
without_empty-clean x h =
    let k = (out-Node x).kind in
    let found = finds_from (enters_all k) 0 (map (finds is_type_part enters_all) (out-Node x).children) in
    let parts = or-false (is_type_part k) found (sym (fold_out-Node Bool (finds_here is_type_part enters_all) x) ∙ h) in
    let items = filter-clean (λ (n : Node). not (is_empty_stmt (out-Node n).kind)) (out-Node x).children (clean-all k (out-Node x).children 0 parts.1) in
    clean-roll (out-Node x).span k (filter (λ (n : Node). not (is_empty_stmt (out-Node n).kind)) (out-Node x).children) parts.0 items

without_this-clean : (x : Node) → Clean x → Clean (without_this x)
without_this-clean x h = by (is_absent (out-Node x).kind)
  where
    by : (b : Bool) → Clean (cond b x absent)
    by true = h
    by false = absent-clean

-- what is left of a list
item-clean : (s : Shape) (b : Bool) (n : (n : Node) × Left n) (cs : List Node) → stays n.0 ≡ b → has_shape_under_types n.0 s ≡ true → AllClean (map stripped cs) → AllClean (map stripped (cond b (n.0 ∷ cs) cs))
item-clean s true n cs st h rest = (n.1 s h (stays-sound n.0 st), rest)
item-clean s false n cs st h rest = rest

items-clean : (s : Shape) (ns : List ((n : Node) × Left n)) → all_have_shapes (replicate (length (map has_shape_under_types (nodes ns))) s) (map has_shape_under_types (nodes ns)) ≡ true → AllClean (map stripped (filter stays (nodes ns)))
items-clean s [] h = tt
items-clean s (n ∷ ns) h =
    let have = both (has_shape_under_types n.0 s) (all_have_shapes (replicate (length (map has_shape_under_types (nodes ns))) s) (map has_shape_under_types (nodes ns))) h in
    item-clean s (stays n.0) n (filter stays (nodes ns)) refl have.0 (items-clean s ns have.1)

-- an expression with a type round it stands where no such node does
module _ (k : Kind) (exprs : (σ : Sort) → belongs σ k ≡ true → not (is_item_sort σ) ≡ true) (no_absent : is_absent k ≡ false) where
  or-rest : (a b : Bool) → a ≡ false → (a || b) ≡ true → b ≡ true
  or-rest true b e h = cc
  or-rest false b e h = h

  wrapper-calm : (c : Count) (σ : Sort) → allows_by c σ k ≡ true → calm_by c σ ≡ true
  wrapper-calm One σ h = exprs σ h
  wrapper-calm Maybe σ h = exprs σ (or-rest (is_absent k) (belongs σ k) no_absent h)
  wrapper-calm Many σ h = refl
  wrapper-calm MaybeMany σ h = refl
  wrapper-calm Holes σ h = refl

  wrapped-clean : (span : Span) (ns : List ((n : Node) × Left n)) (s : Shape) → (allows s k && first_has (map has_shape_under_types (nodes ns)) s) ≡ true → Clean (operand span k (map stripped (nodes ns)))
  wrapped-clean span [] s h = let no : false ≡ true = (both (allows s k) false h).1 in cc
  wrapped-clean span (n ∷ ns) s h =
      let parts = both (allows s k) (has_shape_under_types n.0 s) h in
      n.1 s parts.1 (sound-child n.0 s (wrapper-calm s.count s.sort parts.0) parts.1)

assertion-calm : (σ : Sort) → belongs σ kind.TsTypeAssertion ≡ true → not (is_item_sort σ) ≡ true
assertion-calm sort.Program h = cc
assertion-calm _ h = cc

const-calm : (σ : Sort) → belongs σ kind.TsConstAssertion ≡ true → not (is_item_sort σ) ≡ true
const-calm sort.Program h = cc
const-calm _ h = cc

non_null-calm : (σ : Sort) → belongs σ kind.TsNonNullExpr ≡ true → not (is_item_sort σ) ≡ true
non_null-calm sort.Program h = cc
non_null-calm _ h = cc

as-calm : (σ : Sort) → belongs σ kind.TsAsExpr ≡ true → not (is_item_sort σ) ≡ true
as-calm sort.Program h = cc
as-calm _ h = cc

instantiation-calm : (σ : Sort) → belongs σ kind.TsInstantiation ≡ true → not (is_item_sort σ) ≡ true
instantiation-calm sort.Program h = cc
instantiation-calm _ h = cc

satisfies-calm : (σ : Sort) → belongs σ kind.TsSatisfiesExpr ≡ true → not (is_item_sort σ) ≡ true
satisfies-calm sort.Program h = cc
satisfies-calm _ h = cc

-- what is exported
decl-sound : (k : Kind) (cs : List Node) → belongs sort.Decl k ≡ true → dropped_item k ≡ false → unsound_by k cs ≡ false
decl-sound (kind.TsIndexSignature r d) cs b h = cc
decl-sound (kind.ImportNamedSpecifier d) cs b h = cc
decl-sound (kind.ExportNamedSpecifier d) cs b h = cc
decl-sound kind.ExportDecl cs b h = cc
decl-sound kind.ExportDefaultDecl cs b h = cc
decl-sound _ cs b h = h

default-sound : (k : Kind) (cs : List Node) → belongs sort.DefaultDecl k ≡ true → is_interface k ≡ false → unsound_by k cs ≡ false
default-sound (kind.TsInterfaceDecl d) cs b h = cc
default-sound kind.ExportDecl cs b h = cc
default-sound kind.ExportDefaultDecl cs b h = cc
default-sound _ cs b h = cc

export-clean : (ns : List ((n : Node) × Left n)) → all_have_shapes (one sort.Decl ∷ []) (map has_shape_under_types (nodes ns)) ≡ true
    → if_there (slice_get (nodes ns) 0) (λ x. dropped_item (out-Node x).kind) ≡ false → AllClean (map stripped (nodes ns))
export-clean [] h u = cc
export-clean (d ∷ []) h u =
    let has = (both (has_shape_under_types d.0 (one sort.Decl)) true h).0 in
    (d.1 (one sort.Decl) has (decl-sound (out-Node d.0).kind (out-Node d.0).children (allows-under d.0 (one sort.Decl) has) u), tt)
export-clean (d ∷ e ∷ ns) h u = let no : false ≡ true = (both (has_shape_under_types d.0 (one sort.Decl)) false h).1 in cc

default-clean : (ns : List ((n : Node) × Left n)) → all_have_shapes (one sort.DefaultDecl ∷ []) (map has_shape_under_types (nodes ns)) ≡ true
    → if_there (slice_get (nodes ns) 0) (λ x. is_interface (out-Node x).kind) ≡ false → AllClean (map stripped (nodes ns))
default-clean [] h u = cc
default-clean (d ∷ []) h u =
    let has = (both (has_shape_under_types d.0 (one sort.DefaultDecl)) true h).0 in
    (d.1 (one sort.DefaultDecl) has (default-sound (out-Node d.0).kind (out-Node d.0).children (allows-under d.0 (one sort.DefaultDecl) has) u), tt)
default-clean (d ∷ e ∷ ns) h u = let no : false ≡ true = (both (has_shape_under_types d.0 (one sort.DefaultDecl)) false h).1 in cc

all_calm-replicate : (n : ℕ) (s : Shape) → calm s ≡ true → all_calm (replicate n s) ≡ true
all_calm-replicate zero s g = refl
all_calm-replicate (suc n) s g = rw (g, all_calm-replicate n s g) refl

sequence-calm : (s : Shape) (n : ℕ) → all_calm (child_shapes kind.SeqExpr s n) ≡ true
sequence-calm s zero = refl
sequence-calm s (suc n) = all_calm-replicate (suc n) (one sort.Expr) refl

-- the shapes that the children have
abbrev asked : Kind → List ((n : Node) × Left n) → Shape → List Shape
asked k ns s = child_shapes k s (length (map has_shape_under_types (nodes ns)))

below : (k : Kind) (ns : List ((n : Node) × Left n)) (s : Shape) → (allows s k && all_have_shapes (asked k ns s) (map has_shape_under_types (nodes ns))) ≡ true → all_have_shapes (asked k ns s) (map has_shape_under_types (nodes ns)) ≡ true
below k ns s h = (both (allows s k) (all_have_shapes (asked k ns s) (map has_shape_under_types (nodes ns))) h).1

layer : (span : Span) (k : Kind) (ns : List ((n : Node) × Left n)) (s : Shape) → shape_under_types_by (record { span = span; kind = k; children = map has_shape_under_types (nodes ns) }) s ≡ true
    → unsound_by k (nodes ns) ≡ false → Clean (plain span k (map stripped (staying_nodes k (nodes ns))))
unfolding plain plain_kind plain_children is_type_part
layer span kind.TsTypeAnn ns s h u = absent-clean
layer span kind.TsType ns s h u = absent-clean
layer span kind.TsTypeParamDecl ns s h u = absent-clean
layer span kind.TsTypeParamInstantiation ns s h u = absent-clean
layer span kind.TsTypeAssertion ns s h u = wrapped-clean kind.TsTypeAssertion assertion-calm refl span ns s h
layer span kind.TsConstAssertion ns s h u = wrapped-clean kind.TsConstAssertion const-calm refl span ns s h
layer span kind.TsNonNullExpr ns s h u = wrapped-clean kind.TsNonNullExpr non_null-calm refl span ns s h
layer span kind.TsAsExpr ns s h u = wrapped-clean kind.TsAsExpr as-calm refl span ns s h
layer span kind.TsInstantiation ns s h u = wrapped-clean kind.TsInstantiation instantiation-calm refl span ns s h
layer span kind.TsSatisfiesExpr ns s h u = wrapped-clean kind.TsSatisfiesExpr satisfies-calm refl span ns s h
layer span kind.List ns s h u = clean-roll span kind.List (map stripped (filter stays (nodes ns))) refl (items-clean (item_shape s) ns (below kind.List ns s h))
layer span kind.ExportDecl ns s h u = clean-roll span kind.ExportDecl (map stripped (nodes ns)) refl (export-clean ns (below kind.ExportDecl ns s h) u)
layer span kind.ExportDefaultDecl ns s h u = clean-roll span kind.ExportDefaultDecl (map stripped (nodes ns)) refl (default-clean ns (below kind.ExportDefaultDecl ns s h) u)
layer span (kind.Module shebang) ns s h u =
    clean-roll span (kind.Module shebang) (changed_at 0 without_empty (map stripped (nodes ns))) refl
    (changed-clean 0 without_empty (map stripped (nodes ns)) without_empty-clean (children-clean (asked (kind.Module shebang) ns s) ns refl (below (kind.Module shebang) ns s h)))
layer span (kind.Script shebang) ns s h u =
    clean-roll span (kind.Script shebang) (changed_at 0 without_empty (map stripped (nodes ns))) refl
    (changed-clean 0 without_empty (map stripped (nodes ns)) without_empty-clean (children-clean (asked (kind.Script shebang) ns s) ns refl (below (kind.Script shebang) ns s h)))
layer span kind.BlockStmt ns s h u =
    clean-roll span kind.BlockStmt (changed_at 0 without_empty (map stripped (nodes ns))) refl
    (changed-clean 0 without_empty (map stripped (nodes ns)) without_empty-clean (children-clean (asked kind.BlockStmt ns s) ns refl (below kind.BlockStmt ns s h)))
layer span kind.TsModuleBlock ns s h u =
    clean-roll span kind.TsModuleBlock (changed_at 0 without_empty (map stripped (nodes ns))) refl
    (changed-clean 0 without_empty (map stripped (nodes ns)) without_empty-clean (children-clean (asked kind.TsModuleBlock ns s) ns refl (below kind.TsModuleBlock ns s h)))
layer span kind.SwitchCase ns s h u =
    clean-roll span kind.SwitchCase (changed_at 1 without_empty (map stripped (nodes ns))) refl
    (changed-clean 1 without_empty (map stripped (nodes ns)) without_empty-clean (children-clean (asked kind.SwitchCase ns s) ns refl (below kind.SwitchCase ns s h)))
layer span kind.SetterProp ns s h u =
    clean-roll span kind.SetterProp (changed_at 1 without_this (map stripped (nodes ns))) refl
    (changed-clean 1 without_this (map stripped (nodes ns)) without_this-clean (children-clean (asked kind.SetterProp ns s) ns refl (below kind.SetterProp ns s h)))
layer span kind.IfStmt ns s h u =
    clean-roll span kind.IfStmt (changed_at 1 body_of (changed_at 2 body_of (map stripped (nodes ns)))) refl (if-clean ns (below kind.IfStmt ns s h))
layer span kind.LabeledStmt ns s h u = clean-roll span kind.LabeledStmt (changed_at 1 body_of (map stripped (nodes ns))) refl (at-clean 1 (asked kind.LabeledStmt ns s) ns refl refl (below kind.LabeledStmt ns s h))
layer span kind.WhileStmt ns s h u = clean-roll span kind.WhileStmt (changed_at 1 body_of (map stripped (nodes ns))) refl (at-clean 1 (asked kind.WhileStmt ns s) ns refl refl (below kind.WhileStmt ns s h))
layer span kind.DoWhileStmt ns s h u = clean-roll span kind.DoWhileStmt (changed_at 1 body_of (map stripped (nodes ns))) refl (at-clean 1 (asked kind.DoWhileStmt ns s) ns refl refl (below kind.DoWhileStmt ns s h))
layer span kind.ForStmt ns s h u = clean-roll span kind.ForStmt (changed_at 3 body_of (map stripped (nodes ns))) refl (at-clean 3 (asked kind.ForStmt ns s) ns refl refl (below kind.ForStmt ns s h))
layer span kind.ForInStmt ns s h u = clean-roll span kind.ForInStmt (changed_at 2 body_of (map stripped (nodes ns))) refl (at-clean 2 (asked kind.ForInStmt ns s) ns refl refl (below kind.ForInStmt ns s h))
layer span (kind.ForOfStmt is_await) ns s h u =
    clean-roll span (kind.ForOfStmt is_await) (changed_at 2 body_of (map stripped (nodes ns))) refl (at-clean 2 (asked (kind.ForOfStmt is_await) ns s) ns refl refl (below (kind.ForOfStmt is_await) ns s h))
layer span kind.SeqExpr ns s h u =
    clean-roll span kind.SeqExpr (map stripped (nodes ns)) refl (children-clean (asked kind.SeqExpr ns s) ns (sequence-calm s (length (map has_shape_under_types (nodes ns)))) (below kind.SeqExpr ns s h))
layer span k ns s h u = clean-roll span (plain_kind k) (map stripped (nodes ns)) (cc) (children-clean (asked k ns s) ns refl (below k ns s h))

left : (n : Node) → Left n
left = ind-Node Left (λ x y is.
    (let parts : Node-F Node = record { span = y.span; kind = y.kind; children = nodes y.children } in
    subst (λ (z : Node-F Node). Left (roll-Node z)) is (λ s h u.
    subst Clean (sym (stripped-roll parts))
    (layer y.span y.kind y.children s (sym (ap (λ f. f s) (fold-roll-Node (Shape → Bool) shape_under_types_by parts)) ∙ h) (sym (ap (λ (z : Node-F Node). unsound_by z.kind z.children) (out-roll-Node parts)) ∙ u)))))

pub no_types_are_left : NoTypesAreLeft
no_types_are_left tree sort g h = left tree (one sort) h (sound-child tree (one sort) (ap not g) h)
