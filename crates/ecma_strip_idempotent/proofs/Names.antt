-- In a sorted tree without its types no name `this` stands in a list.
use Rattle.std.proofs.Common.{◌≡◌, ◌∙◌, Bool, true, false, refl, sym, ap, subst, List, [], ◌∷◌, map, length, slice_get}
use Rattle.ecma_kind.specs.Sorts.{belongs}
use Rattle.ecma_kind.specs.declared.kind.Kind.{Kind}
use Rattle.ecma_kind.specs.declared.kind.Kind.TheVariants as kind
use Rattle.ecma_kind.specs.declared.span.Span.{Span}
use Rattle.ecma_kind.specs.declared.shapes.Shape.{Shape}
use Rattle.ecma_kind.specs.declared.shapes.Sort.TheVariants as sort
use Rattle.ecma_tree.specs.Laws.{HaveShapes}
use Rattle.ecma_tree.specs.Nodes.{absent, dummy_span, node_of}
use Rattle.ecma_tree.specs.Sorted.{HasShape, allows, child_shapes, one}
use Rattle.ecma_tree.specs.declared.node.Node.{Node, Node-F, ind-Node, out-Node, roll-Node}
use Rattle.ecma_tree.specs.declared.node.Node.TheViews.{out-roll-Node, roll-out-Node}
use Rattle.ecma_tree.proofs.ShapeLaws.{node_has_shape}
use Rattle.ecma_strip.specs.Staying.{if_there, is_this, is_this_by, is_this_ident, is_this_param, is_this_param_by}
use Rattle.ecma_strip.specs.Stripping.{operand, plain, plain_children, plain_kind, staying_nodes, stripped}
use Rattle.ecma_strip.proofs.Stripping.{stripped-out, stripped-roll}
use Rattle.ecma_strip_idempotent.proofs.Steady.{no}

-- ---- `this`, by the parts of a node

abbrev name_by : Kind → List Node → Bool
name_by kind.BindingIdent cs = if_there (slice_get cs 0) (λ x. is_this_ident (out-Node x).kind)
name_by _ cs = false

abbrev param_or : Kind → List Node → Bool → Bool
param_or kind.Param cs b = if_there (slice_get cs 0) is_this
param_or _ cs b = b

abbrev param_by : Kind → List Node → Bool
param_by k cs = param_or k cs (name_by k cs)

name-parts : (k : Kind) (n : Node) → is_this_by k n ≡ name_by k (out-Node n).children
name-parts kind.BindingIdent n = refl
name-parts _ n = refl

param-parts : (k : Kind) (n : Node) → is_this_param_by k n ≡ param_or k (out-Node n).children (is_this n)
param-parts kind.Param n = refl
param-parts _ n = refl

name-out : (n : Node) → is_this n ≡ name_by (out-Node n).kind (out-Node n).children
name-out n = name-parts (out-Node n).kind n

param-out : (n : Node) → is_this_param n ≡ param_by (out-Node n).kind (out-Node n).children
param-out n = param-parts (out-Node n).kind n ∙ ap (param_or (out-Node n).kind (out-Node n).children) (name-out n)

name-rolled : (span : Span) (k : Kind) (cs : List Node) → is_this (node_of span k cs) ≡ name_by k cs
name-rolled span k cs =
    let parts : Node-F Node = record { span = span; kind = k; children = cs } in
    name-out (roll-Node parts) ∙ ap (λ (z : Node-F Node). name_by z.kind z.children) (out-roll-Node parts)

param-rolled : (span : Span) (k : Kind) (cs : List Node) → is_this_param (node_of span k cs) ≡ param_by k cs
param-rolled span k cs =
    let parts : Node-F Node = record { span = span; kind = k; children = cs } in
    param-out (roll-Node parts) ∙ ap (λ (z : Node-F Node). param_by z.kind z.children) (out-roll-Node parts)

abbrev is_bound : Kind → Bool
is_bound kind.BindingIdent = true
is_bound kind.Param = true
is_bound _ = false

unbound-name : (k : Kind) (cs : List Node) → is_bound k ≡ false → name_by k cs ≡ false
unbound-name kind.BindingIdent cs u = absurd (no (sym u))
unbound-name _ cs u = refl

unbound-param : (k : Kind) (cs : List Node) → is_bound k ≡ false → param_by k cs ≡ false
unbound-param kind.BindingIdent cs u = absurd (no (sym u))
unbound-param kind.Param cs u = absurd (no (sym u))
unbound-param _ cs u = refl

-- ---- what is left of an expression is no bound name

abbrev IsUnbound : Node → Type 0
IsUnbound n = is_bound (out-Node n).kind ≡ false

unbound-rolled : (span : Span) (k : Kind) (cs : List Node) → is_bound k ≡ false → IsUnbound (node_of span k cs)
unbound-rolled span k cs u = ap (λ (z : Node-F Node). is_bound z.kind) (out-roll-Node (record { span = span; kind = k; children = cs })) ∙ u

plain-bound : (k : Kind) → is_bound (plain_kind k) ≡ is_bound k
unfolding plain_kind
plain-bound kind.Absent = refl
plain-bound _ = refl

expression-unbound : (k : Kind) → belongs sort.Expr k ≡ true → is_bound k ≡ false
expression-unbound kind.BindingIdent b = absurd (no b)
expression-unbound kind.Param b = absurd (no b)
expression-unbound _ b = refl

abbrev without_first : List Shape → List Shape
without_first [] = []
without_first (s ∷ shapes) = shapes

-- the shapes of the children of such a node but the first
abbrev pub rest_of : Kind → List Shape
rest_of k = without_first (child_shapes k (one sort.Expr) 0)

abbrev LeftUnbound : Node → Type 0
LeftUnbound n = HasShape (one sort.Expr) n → IsUnbound (stripped n)

operand-unbound : (span : Span) (k : Kind) (ns : List ((n : Node) × LeftUnbound n)) (rest : List Shape) → is_bound k ≡ false → HaveShapes (one sort.Expr ∷ rest) (map (λ e. e.0) ns)
    → IsUnbound (operand span k (map stripped (map (λ e. e.0) ns)))
operand-unbound span k [] rest u h = unbound-rolled span k [] u
operand-unbound span k (n ∷ ns) rest u h = n.1 h.0

unbound-layer : (span : Span) (k : Kind) (ns : List ((n : Node) × LeftUnbound n)) → belongs sort.Expr k ≡ true
    → HaveShapes (child_shapes k (one sort.Expr) (length (map (λ e. e.0) ns))) (map (λ e. e.0) ns) → IsUnbound (plain span k (map stripped (staying_nodes k (map (λ e. e.0) ns))))
unfolding plain
unbound-layer span kind.TsTypeAnn ns b h = absurd (no b)
unbound-layer span kind.TsType ns b h = absurd (no b)
unbound-layer span kind.TsTypeParamDecl ns b h = absurd (no b)
unbound-layer span kind.TsTypeParamInstantiation ns b h = absurd (no b)
unbound-layer span kind.TsTypeAssertion ns b h = operand-unbound span kind.TsTypeAssertion ns (rest_of kind.TsTypeAssertion) refl h
unbound-layer span kind.TsConstAssertion ns b h = operand-unbound span kind.TsConstAssertion ns (rest_of kind.TsConstAssertion) refl h
unbound-layer span kind.TsNonNullExpr ns b h = operand-unbound span kind.TsNonNullExpr ns (rest_of kind.TsNonNullExpr) refl h
unbound-layer span kind.TsAsExpr ns b h = operand-unbound span kind.TsAsExpr ns (rest_of kind.TsAsExpr) refl h
unbound-layer span kind.TsInstantiation ns b h = operand-unbound span kind.TsInstantiation ns (rest_of kind.TsInstantiation) refl h
unbound-layer span kind.TsSatisfiesExpr ns b h = operand-unbound span kind.TsSatisfiesExpr ns (rest_of kind.TsSatisfiesExpr) refl h
unbound-layer span k ns b h =
    unbound-rolled span (plain_kind k) (plain_children k (map stripped (staying_nodes k (map (λ e. e.0) ns)))) (plain-bound k ∙ expression-unbound k b)

left-unbound : (n : Node) → LeftUnbound n
left-unbound = ind-Node LeftUnbound (λ x y is.
    (let parts : Node-F Node = record { span = y.span; kind = y.kind; children = map (λ e. e.0) y.children } in
    subst (λ (z : Node-F Node). LeftUnbound (roll-Node z)) is (λ h.
    (let have = (node_has_shape y.span y.kind (map (λ e. e.0) y.children) (one sort.Expr)).0 h in
    subst IsUnbound (sym (stripped-roll parts)) (unbound-layer y.span y.kind y.children have.0 have.1)))))

left-operand : (span : Span) (k : Kind) (cs : List Node) (rest : List Shape) → is_bound k ≡ false → HaveShapes (one sort.Expr ∷ rest) cs → IsUnbound (operand span k (map stripped cs))
left-operand span k [] rest u h = unbound-rolled span k [] u
left-operand span k (c ∷ cs) rest u h = left-unbound c h.0

-- ---- what is not `this` is not with its types gone

unbound-is-no-name : (n : Node) → IsUnbound n → is_this n ≡ false
unbound-is-no-name n u = name-out n ∙ unbound-name (out-Node n).kind (out-Node n).children u

unbound-is-no-param : (n : Node) → IsUnbound n → is_this_param n ≡ false
unbound-is-no-param n u = param-out n ∙ unbound-param (out-Node n).kind (out-Node n).children u

absent-unbound : IsUnbound absent
absent-unbound = unbound-rolled dummy_span kind.Absent [] refl

ident-by : (span : Span) (k : Kind) (cs : List Node) → belongs sort.Ident k ≡ true → is_this_ident (out-Node (plain span k cs)).kind ≡ is_this_ident k
unfolding plain plain_kind plain_children
ident-by span (kind.Ident s c o) cs b = ap (λ (z : Node-F Node). is_this_ident z.kind) (out-roll-Node (record { span = span; kind = kind.Ident s c false; children = cs }))
ident-by span _ cs b = absurd (no b)

parts-have : (n : Node) (shape : Shape) → HasShape shape n → (allows shape (out-Node n).kind ≡ true) × HaveShapes (child_shapes (out-Node n).kind shape (length (out-Node n).children)) (out-Node n).children
parts-have n shape has = (node_has_shape (out-Node n).span (out-Node n).kind (out-Node n).children shape).0 (subst (HasShape shape) (sym (roll-out-Node n)) has)

binding-same : (cs : List Node) (rest : List Shape) → HaveShapes (one sort.Ident ∷ rest) cs → name_by kind.BindingIdent cs ≡ false → name_by kind.BindingIdent (map stripped cs) ≡ false
binding-same [] rest h t = t
binding-same (c ∷ cs) rest h t =
    ap (λ z. is_this_ident (out-Node z).kind) (stripped-out c)
    ∙ ident-by (out-Node c).span (out-Node c).kind (map stripped (staying_nodes (out-Node c).kind (out-Node c).children)) (parts-have c (one sort.Ident) h.0).0 ∙ t

name-stays-by : (span : Span) (k : Kind) (cs : List Node) (s : Shape) → HaveShapes (child_shapes k s (length cs)) cs → name_by k cs ≡ false → is_this (plain span k (map stripped (staying_nodes k cs))) ≡ false
unfolding plain plain_kind plain_children
name-stays-by span kind.TsTypeAnn cs s h t = unbound-is-no-name absent absent-unbound
name-stays-by span kind.TsType cs s h t = unbound-is-no-name absent absent-unbound
name-stays-by span kind.TsTypeParamDecl cs s h t = unbound-is-no-name absent absent-unbound
name-stays-by span kind.TsTypeParamInstantiation cs s h t = unbound-is-no-name absent absent-unbound
name-stays-by span kind.TsTypeAssertion cs s h t = unbound-is-no-name (operand span kind.TsTypeAssertion (map stripped cs)) (left-operand span kind.TsTypeAssertion cs (rest_of kind.TsTypeAssertion) refl h)
name-stays-by span kind.TsConstAssertion cs s h t = unbound-is-no-name (operand span kind.TsConstAssertion (map stripped cs)) (left-operand span kind.TsConstAssertion cs (rest_of kind.TsConstAssertion) refl h)
name-stays-by span kind.TsNonNullExpr cs s h t = unbound-is-no-name (operand span kind.TsNonNullExpr (map stripped cs)) (left-operand span kind.TsNonNullExpr cs (rest_of kind.TsNonNullExpr) refl h)
name-stays-by span kind.TsAsExpr cs s h t = unbound-is-no-name (operand span kind.TsAsExpr (map stripped cs)) (left-operand span kind.TsAsExpr cs (rest_of kind.TsAsExpr) refl h)
name-stays-by span kind.TsInstantiation cs s h t = unbound-is-no-name (operand span kind.TsInstantiation (map stripped cs)) (left-operand span kind.TsInstantiation cs (rest_of kind.TsInstantiation) refl h)
name-stays-by span kind.TsSatisfiesExpr cs s h t = unbound-is-no-name (operand span kind.TsSatisfiesExpr (map stripped cs)) (left-operand span kind.TsSatisfiesExpr cs (rest_of kind.TsSatisfiesExpr) refl h)
name-stays-by span kind.BindingIdent cs s h t = name-rolled span kind.BindingIdent (map stripped cs) ∙ binding-same cs (rest_of kind.BindingIdent) h t
name-stays-by span k cs s h t = name-rolled span (plain_kind k) (plain_children k (map stripped (staying_nodes k cs))) ∙ refl

name-stays : (n : Node) (s : Shape) → HasShape s n → is_this n ≡ false → is_this (stripped n) ≡ false
name-stays n s h t =
    ap is_this (stripped-out n) ∙ name-stays-by (out-Node n).span (out-Node n).kind (out-Node n).children s (parts-have n s h).1 (sym (name-out n) ∙ t)

first-stays : (cs : List Node) (rest : List Shape) → HaveShapes (one sort.Pat ∷ rest) cs → if_there (slice_get cs 0) is_this ≡ false → if_there (slice_get (map stripped cs) 0) is_this ≡ false
first-stays [] rest h t = t
first-stays (c ∷ cs) rest h t = name-stays c (one sort.Pat) h.0 t

param-stays-by : (span : Span) (k : Kind) (cs : List Node) (s : Shape) → HaveShapes (child_shapes k s (length cs)) cs → param_by k cs ≡ false
    → is_this_param (plain span k (map stripped (staying_nodes k cs))) ≡ false
unfolding plain plain_kind plain_children
param-stays-by span kind.TsTypeAnn cs s h t = unbound-is-no-param absent absent-unbound
param-stays-by span kind.TsType cs s h t = unbound-is-no-param absent absent-unbound
param-stays-by span kind.TsTypeParamDecl cs s h t = unbound-is-no-param absent absent-unbound
param-stays-by span kind.TsTypeParamInstantiation cs s h t = unbound-is-no-param absent absent-unbound
param-stays-by span kind.TsTypeAssertion cs s h t = unbound-is-no-param (operand span kind.TsTypeAssertion (map stripped cs)) (left-operand span kind.TsTypeAssertion cs (rest_of kind.TsTypeAssertion) refl h)
param-stays-by span kind.TsConstAssertion cs s h t = unbound-is-no-param (operand span kind.TsConstAssertion (map stripped cs)) (left-operand span kind.TsConstAssertion cs (rest_of kind.TsConstAssertion) refl h)
param-stays-by span kind.TsNonNullExpr cs s h t = unbound-is-no-param (operand span kind.TsNonNullExpr (map stripped cs)) (left-operand span kind.TsNonNullExpr cs (rest_of kind.TsNonNullExpr) refl h)
param-stays-by span kind.TsAsExpr cs s h t = unbound-is-no-param (operand span kind.TsAsExpr (map stripped cs)) (left-operand span kind.TsAsExpr cs (rest_of kind.TsAsExpr) refl h)
param-stays-by span kind.TsInstantiation cs s h t = unbound-is-no-param (operand span kind.TsInstantiation (map stripped cs)) (left-operand span kind.TsInstantiation cs (rest_of kind.TsInstantiation) refl h)
param-stays-by span kind.TsSatisfiesExpr cs s h t = unbound-is-no-param (operand span kind.TsSatisfiesExpr (map stripped cs)) (left-operand span kind.TsSatisfiesExpr cs (rest_of kind.TsSatisfiesExpr) refl h)
param-stays-by span kind.BindingIdent cs s h t = param-rolled span kind.BindingIdent (map stripped cs) ∙ binding-same cs (rest_of kind.BindingIdent) h t
param-stays-by span kind.Param cs s h t = param-rolled span kind.Param (map stripped cs) ∙ first-stays cs (rest_of kind.Param) h t
param-stays-by span k cs s h t = param-rolled span (plain_kind k) (plain_children k (map stripped (staying_nodes k cs))) ∙ refl

pub param-stays : (n : Node) (s : Shape) → HasShape s n → is_this_param n ≡ false → is_this_param (stripped n) ≡ false
param-stays n s h t =
    ap is_this_param (stripped-out n) ∙ param-stays-by (out-Node n).span (out-Node n).kind (out-Node n).children s (parts-have n s h).1 (sym (param-out n) ∙ t)
