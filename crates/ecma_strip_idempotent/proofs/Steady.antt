-- Where an expression with a type round it stands in a list, what is left of it stays there.
use Rattle.std.proofs.Common.{◌≡◌, ◌∙◌, Bool, true, false, ◌&&◌, ◌||◌, not, cond, refl, sym, ap, subst, List, [], ◌∷◌, map, length}
use Rattle.ecma_kind.specs.Sorts.{belongs}
use Rattle.ecma_kind.specs.declared.kind.Kind.{Kind}
use Rattle.ecma_kind.specs.declared.kind.Kind.TheVariants as kind
use Rattle.ecma_kind.specs.declared.span.Span.{Span}
use Rattle.ecma_kind.specs.declared.shapes.Count.{Count}
use Rattle.ecma_kind.specs.declared.shapes.Count.TheVariants.{One, Maybe, Many, MaybeMany, Holes}
use Rattle.ecma_kind.specs.declared.shapes.Shape.{Shape}
use Rattle.ecma_kind.specs.declared.shapes.Sort.{Sort}
use Rattle.ecma_kind.specs.declared.shapes.Sort.TheVariants as sort
use Rattle.ecma_tree.specs.Nodes.{dummy_span, node_of}
use Rattle.ecma_tree.specs.Sorted.{all_have_shapes, allows, allows_by, child_shapes, is_absent}
use Rattle.ecma_tree.specs.declared.node.Node.{Node, Node-F, fold-roll-Node, ind-Node, out-Node, roll-Node}
use Rattle.ecma_tree.specs.declared.node.Node.TheViews.{out-roll-Node}
use Rattle.ecma_tree.specs.Values.{is_value}
use Rattle.ecma_strip.specs.Laws.{first_has, has_shape_under_types, shape_under_types_by}
use Rattle.ecma_strip.specs.Staying.{is_ambient, is_empty_stmt, is_this_param, member_stays_by, specifier_stays, stays}
use Rattle.ecma_strip.specs.Stripping.{operand, plain, plain_children, plain_kind, staying_nodes, stripped}
use Rattle.ecma_strip.proofs.Sorting.{both}
use Rattle.ecma_strip.proofs.Stripping.{stripped-roll}

pub no : false ≡ true → ⊥
no h = cc

-- a kind of which no item goes, but `this`
is_steady_by : Kind → Bool
is_steady_by (kind.TsIndexSignature readonly is_static) = false
is_steady_by (kind.Constructor accessibility is_optional) = false
is_steady_by (kind.ClassMethod k modifiers) = false
is_steady_by (kind.PrivateMethod k modifiers) = false
is_steady_by (kind.ClassProp modifiers readonly declare definite) = false
is_steady_by (kind.PrivateProp modifiers readonly declare definite) = false
is_steady_by (kind.ImportNamedSpecifier is_type_only) = false
is_steady_by (kind.ExportNamedSpecifier is_type_only) = false
is_steady_by kind.TsType = false
is_steady_by k = not (belongs sort.ModuleItem k)

unfoldable pub is_steady : Kind → Bool
unfolding is_steady_by
is_steady k = is_steady_by k

steady-item : (k : Kind) (b : Bool) → is_steady k ≡ true → cond (is_empty_stmt k) true (cond (belongs sort.ModuleItem k) b true) ≡ true
unfolding is_steady is_steady_by
steady-item kind.EmptyStmt b c = cc
steady-item _ b c = cc

steady-member : (k : Kind) (n : Node) → is_steady k ≡ true → member_stays_by k n ≡ true
unfolding is_steady is_steady_by member_stays_by
steady-member kind.EmptyStmt n c = cc
steady-member _ n c = cc

steady-specifier : (k : Kind) → is_steady k ≡ true → specifier_stays k ≡ true
unfolding is_steady is_steady_by specifier_stays
steady-specifier kind.EmptyStmt c = cc
steady-specifier _ c = cc

pub steady-stays : (n : Node) → is_steady (out-Node n).kind ≡ true → is_this_param n ≡ false → stays n ≡ true
unfolding stays
steady-stays n c t =
    let k = (out-Node n).kind in
    λ j. ((steady-item k (is_value n && not (is_ambient n)) c j && steady-member k n c j) && steady-specifier k c j) && not (t j)

-- ---- sorts of expressions

abbrev pub is_expression_sort : Sort → Bool
is_expression_sort sort.Expr = true
is_expression_sort sort.Pat = true
is_expression_sort sort.Callee = true
is_expression_sort sort.ExprOrSpread = true
is_expression_sort sort.AssignTarget = true
is_expression_sort sort.SimpleAssignTarget = true
is_expression_sort _ = false

-- sorts of which there may be lists
abbrev pub is_listed : Sort → Bool
is_listed sort.VarDeclOrExpr = false
is_listed sort.ForHead = false
is_listed sort.BlockStmtOrExpr = false
is_listed _ = true

expressions-steady : (k : Kind) → belongs sort.Expr k ≡ true → is_steady k ≡ true
unfolding is_steady is_steady_by
expressions-steady kind.EmptyStmt b = cc
expressions-steady _ b = cc

patterns-steady : (k : Kind) → belongs sort.Pat k ≡ true → is_steady k ≡ true
unfolding is_steady is_steady_by
patterns-steady kind.EmptyStmt b = cc
patterns-steady _ b = cc

callees-steady : (k : Kind) → belongs sort.Callee k ≡ true → is_steady k ≡ true
unfolding is_steady is_steady_by
callees-steady kind.EmptyStmt b = cc
callees-steady _ b = cc

arguments-steady : (k : Kind) → belongs sort.ExprOrSpread k ≡ true → is_steady k ≡ true
unfolding is_steady is_steady_by
arguments-steady kind.EmptyStmt b = cc
arguments-steady _ b = cc

targets-steady : (k : Kind) → belongs sort.AssignTarget k ≡ true → is_steady k ≡ true
unfolding is_steady is_steady_by
targets-steady kind.EmptyStmt b = cc
targets-steady _ b = cc

simple-steady : (k : Kind) → belongs sort.SimpleAssignTarget k ≡ true → is_steady k ≡ true
unfolding is_steady is_steady_by
simple-steady kind.EmptyStmt b = cc
simple-steady _ b = cc

steady-sort : (σ : Sort) (k : Kind) → is_expression_sort σ ≡ true → belongs σ k ≡ true → is_steady k ≡ true
steady-sort sort.Expr k e b = expressions-steady k b
steady-sort sort.Pat k e b = patterns-steady k b
steady-sort sort.Callee k e b = callees-steady k b
steady-sort sort.ExprOrSpread k e b = arguments-steady k b
steady-sort sort.AssignTarget k e b = targets-steady k b
steady-sort sort.SimpleAssignTarget k e b = simple-steady k b
steady-sort _ k e b = absurd (no e)

-- the count of an item of a list
abbrev pub is_single : Count → Bool
is_single One = true
is_single Maybe = true
is_single _ = false

absent-or : (k : Kind) (b : Bool) → (b ≡ true → is_steady k ≡ true) → (is_absent k || b) ≡ true → is_steady k ≡ true
unfolding is_steady is_steady_by
absent-or kind.Absent b f h = refl
absent-or _ b f h = f h

steady-allowed : (c : Count) (σ : Sort) (k : Kind) → is_single c ≡ true → is_expression_sort σ ≡ true → allows_by c σ k ≡ true → is_steady k ≡ true
steady-allowed One σ k i e a = steady-sort σ k e a
steady-allowed Maybe σ k i e a = absent-or k (belongs σ k) (steady-sort σ k e) a
steady-allowed Many σ k i e a = absurd (no i)
steady-allowed MaybeMany σ k i e a = absurd (no i)
steady-allowed Holes σ k i e a = absurd (no i)

steady-plain : (k : Kind) → is_steady (plain_kind k) ≡ is_steady k
unfolding is_steady is_steady_by plain_kind
steady-plain kind.Absent = refl
steady-plain _ = refl

-- ---- what is left of an expression

abbrev SteadyNode : Node → Type 0
SteadyNode n = is_steady (out-Node n).kind ≡ true

abbrev StaysSteady : Node → Type 0
StaysSteady n = (s : Shape) → is_single s.count ≡ true → is_expression_sort s.sort ≡ true → has_shape_under_types n s ≡ true → SteadyNode (stripped n)

abbrev nodes : List ((n : Node) × StaysSteady n) → List Node
nodes ns = map (λ e. e.0) ns

rolled : (span : Span) (k : Kind) (cs : List Node) → is_steady k ≡ true → SteadyNode (node_of span k cs)
rolled span k cs h = ap (λ (z : Node-F Node). is_steady z.kind) (out-roll-Node (record { span = span; kind = k; children = cs })) ∙ h

pub absent-steady : SteadyNode (node_of dummy_span kind.Absent [])
unfolding is_steady is_steady_by
absent-steady = rolled dummy_span kind.Absent [] refl

wrapped : (span : Span) (k : Kind) (ns : List ((n : Node) × StaysSteady n)) (s : Shape) → is_single s.count ≡ true → is_expression_sort s.sort ≡ true
    → (allows s k && first_has (map has_shape_under_types (nodes ns)) s) ≡ true → SteadyNode (operand span k (map stripped (nodes ns)))
wrapped span k [] s i e h = absurd (no (both (allows s k) false h).1)
wrapped span k (n ∷ ns) s i e h = n.1 s i e (both (allows s k) (has_shape_under_types n.0 s) h).1

general : (span : Span) (k : Kind) (cs : List Node) (s : Shape) (others : Bool) → is_single s.count ≡ true → is_expression_sort s.sort ≡ true → (allows s k && others) ≡ true
    → SteadyNode (node_of span (plain_kind k) cs)
general span k cs s others i e h = rolled span (plain_kind k) cs (steady-plain k ∙ steady-allowed s.count s.sort k i e (both (allows s k) others h).0)

layer : (span : Span) (k : Kind) (ns : List ((n : Node) × StaysSteady n)) (s : Shape) → is_single s.count ≡ true → is_expression_sort s.sort ≡ true
    → shape_under_types_by (record { span = span; kind = k; children = map has_shape_under_types (nodes ns) }) s ≡ true → SteadyNode (plain span k (map stripped (staying_nodes k (nodes ns))))
unfolding plain
layer span kind.TsTypeAnn ns s i e h = absent-steady
layer span kind.TsType ns s i e h = absent-steady
layer span kind.TsTypeParamDecl ns s i e h = absent-steady
layer span kind.TsTypeParamInstantiation ns s i e h = absent-steady
layer span kind.TsTypeAssertion ns s i e h = wrapped span kind.TsTypeAssertion ns s i e h
layer span kind.TsConstAssertion ns s i e h = wrapped span kind.TsConstAssertion ns s i e h
layer span kind.TsNonNullExpr ns s i e h = wrapped span kind.TsNonNullExpr ns s i e h
layer span kind.TsAsExpr ns s i e h = wrapped span kind.TsAsExpr ns s i e h
layer span kind.TsInstantiation ns s i e h = wrapped span kind.TsInstantiation ns s i e h
layer span kind.TsSatisfiesExpr ns s i e h = wrapped span kind.TsSatisfiesExpr ns s i e h
layer span k ns s i e h =
    general span k (plain_children k (map stripped (staying_nodes k (nodes ns)))) s
    (all_have_shapes (child_shapes k s (length (map has_shape_under_types (nodes ns)))) (map has_shape_under_types (nodes ns))) i e h

pub stays-steady : (n : Node) → StaysSteady n
stays-steady = ind-Node StaysSteady (λ x y is.
    (let parts : Node-F Node = record { span = y.span; kind = y.kind; children = nodes y.children } in
    subst (λ (z : Node-F Node). StaysSteady (roll-Node z)) is (λ s i e h.
    subst SteadyNode (sym (stripped-roll parts)) (layer y.span y.kind y.children s i e (sym (ap (λ f. f s) (fold-roll-Node (Shape → Bool) shape_under_types_by parts)) ∙ h)))))
