-- Kinds without types, and what is asked of them.
use Rattle.std.proofs.Common.{◌≡◌, ◌∙◌, ◌⊎◌, inl, inr, ℕ, zero, suc, Bool, true, false, ◌&&◌, ◌||◌, not, cond, refl, sym, ap, subst, List, [], ◌∷◌, map, filter, length, Some, slice_get}
use Rattle.std.specs.List.{list_all}
use Rattle.ecma_kind.specs.Sorts.{is_decl, is_expr, is_stmt, is_type_wrapper}
use Rattle.ecma_kind.specs.declared.kind.Kind.{Kind}
use Rattle.ecma_kind.specs.declared.kind.Kind.TheVariants as kind
use Rattle.ecma_kind.specs.declared.span.Span.{Span}
use Rattle.ecma_kind.specs.declared.shapes.Shape.{Shape}
use Rattle.ecma_kind.specs.declared.shapes.Sort.TheVariants as sort
use Rattle.ecma_tree.specs.Laws.{HaveShapes}
use Rattle.ecma_tree.specs.Nodes.{absent, node_of}
use Rattle.ecma_tree.specs.Sorted.{HasShape, allows, child_shapes, is_absent, is_list, one}
use Rattle.ecma_tree.specs.declared.node.Node.{Node, out-Node}
use Rattle.ecma_tree.specs.declared.node.Node.TheViews.{roll-out-Node}
use Rattle.ecma_tree.proofs.ShapeLaws.{node_has_shape}
use Rattle.ecma_strip.specs.Staying.{is_declared, is_empty_stmt}
use Rattle.ecma_strip.specs.Stripping.{plain, plain_children, plain_kind, staying_nodes, stripped}
use Rattle.ecma_strip.proofs.Stripping.{stripped-roll}
use Rattle.ecma_tree.specs.Values.{value_by}
use Rattle.ecma_strip_rewriting.specs.Commuting.{changes_children, is_full, is_settled, is_type, is_variables}
use Rattle.ecma_strip_rewriting.proofs.Stays.{item_by, kind-roll}

pub no : {X : Type 0} → false ≡ true → X
no h = cc

pub some-same : {X : Type 0} (a b : X) → Some a ≡ Some b → a ≡ b
some-same a b e = cc

pub both : (a b : Bool) → (a && b) ≡ true → (a ≡ true) × (b ≡ true)
both true b h = (refl, h)
both false b h = cc

-- ---- four classes of kinds

pub class : (k : Kind) → (is_list k ≡ true) ⊎ ((is_type k ≡ true) ⊎ ((is_type_wrapper k ≡ true) ⊎ ((is_list k ≡ false) × (is_type k ≡ false) × (is_type_wrapper k ≡ false))))
class kind.List = inl refl
class kind.TsTypeAnn = inr (inl refl)
class kind.TsType = inr (inl refl)
class kind.TsTypeParamDecl = inr (inl refl)
class kind.TsTypeParamInstantiation = inr (inl refl)
class kind.TsTypeAssertion = inr (inr (inl refl))
class kind.TsConstAssertion = inr (inr (inl refl))
class kind.TsNonNullExpr = inr (inr (inl refl))
class kind.TsAsExpr = inr (inr (inl refl))
class kind.TsInstantiation = inr (inr (inl refl))
class kind.TsSatisfiesExpr = inr (inr (inl refl))
class _ = inr (inr (inr (refl, refl, refl)))

pub type-plain : (span : Span) (k : Kind) (cs : List Node) → is_type k ≡ true → (plain span k cs ≡ absent) × (is_list k ≡ false) × (is_type_wrapper k ≡ false) × (is_settled k ≡ true)
unfolding plain
type-plain span kind.TsTypeAnn cs h = (refl, refl, refl, refl)
type-plain span kind.TsType cs h = (refl, refl, refl, refl)
type-plain span kind.TsTypeParamDecl cs h = (refl, refl, refl, refl)
type-plain span kind.TsTypeParamInstantiation cs h = (refl, refl, refl, refl)
type-plain span _ cs h = no h

pub wrapper-plain : (span : Span) (k : Kind) (e : Node) (es : List Node) (t : Shape) (n : ℕ) → is_type_wrapper k ≡ true → (plain span k (e ∷ es) ≡ e) × (is_list k ≡ false) × (slice_get (child_shapes k t n) 0 ≡ Some (one sort.Expr))
unfolding plain
wrapper-plain span kind.TsTypeAssertion e es t n h = (refl, refl, refl)
wrapper-plain span kind.TsConstAssertion e es t n h = (refl, refl, refl)
wrapper-plain span kind.TsNonNullExpr e es t n h = (refl, refl, refl)
wrapper-plain span kind.TsAsExpr e es t n h = (refl, refl, refl)
wrapper-plain span kind.TsInstantiation e es t n h = (refl, refl, refl)
wrapper-plain span kind.TsSatisfiesExpr e es t n h = (refl, refl, refl)
wrapper-plain span _ e es t n h = no h

pub usual-plain : (span : Span) (k : Kind) (cs : List Node) → is_type k ≡ false → is_type_wrapper k ≡ false → plain span k cs ≡ node_of span (plain_kind k) (plain_children k cs)
unfolding plain
usual-plain span kind.TsTypeAnn cs h g = no (sym h)
usual-plain span kind.TsType cs h g = no (sym h)
usual-plain span kind.TsTypeParamDecl cs h g = no (sym h)
usual-plain span kind.TsTypeParamInstantiation cs h g = no (sym h)
usual-plain span kind.TsTypeAssertion cs h g = no (sym g)
usual-plain span kind.TsConstAssertion cs h g = no (sym g)
usual-plain span kind.TsNonNullExpr cs h g = no (sym g)
usual-plain span kind.TsAsExpr cs h g = no (sym g)
usual-plain span kind.TsInstantiation cs h g = no (sym g)
usual-plain span kind.TsSatisfiesExpr cs h g = no (sym g)
usual-plain span _ cs h g = refl

pub plain-same : (k : Kind) → (is_list (plain_kind k) ≡ is_list k) × (is_type_wrapper (plain_kind k) ≡ is_type_wrapper k) × (is_empty_stmt (plain_kind k) ≡ is_empty_stmt k)
unfolding plain_kind
plain-same kind.EmptyStmt = (refl, refl, refl)
plain-same _ = (refl, refl, refl)

pub staying-other : (k : Kind) (cs : List Node) → is_list k ≡ false → staying_nodes k cs ≡ cs
staying-other kind.List cs h = no (sym h)
staying-other _ cs h = refl

pub stripped-other : (span : Span) (k : Kind) (cs : List Node) → is_list k ≡ false → stripped (node_of span k cs) ≡ plain span k (map stripped cs)
stripped-other span k cs h = stripped-roll (record { span = span; kind = k; children = cs }) ∙ ap (λ z. plain span k (map stripped z)) (staying-other k cs h)

-- a list loses what goes
pub stripped-list : (span : Span) (cs : List Node) → stripped (node_of span kind.List cs) ≡ node_of span kind.List (map stripped (staying_nodes kind.List cs))
unfolding plain plain_kind plain_children
stripped-list span cs = stripped-roll (record { span = span; kind = kind.List; children = cs })

pub children-unchanged : (k : Kind) (cs : List Node) → changes_children k ≡ false → plain_children k cs ≡ cs
unfolding plain_children
children-unchanged (kind.Module b) cs h = no (sym h)
children-unchanged (kind.Script b) cs h = no (sym h)
children-unchanged kind.BlockStmt cs h = no (sym h)
children-unchanged kind.TsModuleBlock cs h = no (sym h)
children-unchanged kind.SwitchCase cs h = no (sym h)
children-unchanged kind.IfStmt cs h = no (sym h)
children-unchanged kind.LabeledStmt cs h = no (sym h)
children-unchanged kind.WhileStmt cs h = no (sym h)
children-unchanged kind.DoWhileStmt cs h = no (sym h)
children-unchanged kind.ForStmt cs h = no (sym h)
children-unchanged kind.ForInStmt cs h = no (sym h)
children-unchanged (kind.ForOfStmt w) cs h = no (sym h)
children-unchanged kind.SetterProp cs h = no (sym h)
children-unchanged _ cs h = refl

-- ---- statements

-- a statement that is a declaration, or one of which nothing is done and that stays whatever its children are
abbrev pub IsStatement : Kind → Type 0
IsStatement k = (is_decl k ≡ true) ⊎ ((is_settled k ≡ true) × ((ds : List Node) → item_by k ds ≡ true))

pub statement-plain : (span : Span) (k : Kind) (cs : List Node) → (is_absent k || is_stmt k) ≡ true
    → (plain span k cs ≡ node_of span k (plain_children k cs)) × (is_list k ≡ false) × (is_type_wrapper k ≡ false) × IsStatement k
unfolding plain plain_kind value_by is_declared
statement-plain span kind.Absent cs b = (refl, refl, refl, inr (refl, λ ds. refl))
statement-plain span kind.BlockStmt cs b = (refl, refl, refl, inr (refl, λ ds. refl))
statement-plain span kind.EmptyStmt cs b = (refl, refl, refl, inr (refl, λ ds. refl))
statement-plain span kind.DebuggerStmt cs b = (refl, refl, refl, inr (refl, λ ds. refl))
statement-plain span kind.ReturnStmt cs b = (refl, refl, refl, inr (refl, λ ds. refl))
statement-plain span kind.LabeledStmt cs b = (refl, refl, refl, inr (refl, λ ds. refl))
statement-plain span kind.BreakStmt cs b = (refl, refl, refl, inr (refl, λ ds. refl))
statement-plain span kind.ContinueStmt cs b = (refl, refl, refl, inr (refl, λ ds. refl))
statement-plain span kind.IfStmt cs b = (refl, refl, refl, inr (refl, λ ds. refl))
statement-plain span kind.SwitchStmt cs b = (refl, refl, refl, inr (refl, λ ds. refl))
statement-plain span kind.ThrowStmt cs b = (refl, refl, refl, inr (refl, λ ds. refl))
statement-plain span kind.TryStmt cs b = (refl, refl, refl, inr (refl, λ ds. refl))
statement-plain span kind.WhileStmt cs b = (refl, refl, refl, inr (refl, λ ds. refl))
statement-plain span kind.DoWhileStmt cs b = (refl, refl, refl, inr (refl, λ ds. refl))
statement-plain span kind.ForStmt cs b = (refl, refl, refl, inr (refl, λ ds. refl))
statement-plain span kind.ForInStmt cs b = (refl, refl, refl, inr (refl, λ ds. refl))
statement-plain span (kind.ForOfStmt w) cs b = (refl, refl, refl, inr (refl, λ ds. refl))
statement-plain span kind.ExprStmt cs b = (refl, refl, refl, inr (refl, λ ds. refl))
statement-plain span (kind.FnDecl d) cs b = (refl, refl, refl, inl refl)
statement-plain span (kind.ClassDecl d) cs b = (refl, refl, refl, inl refl)
statement-plain span (kind.VarDecl w d) cs b = (refl, refl, refl, inl refl)
statement-plain span (kind.TsEnumDecl d c) cs b = (refl, refl, refl, inl refl)
statement-plain span (kind.TsModuleDecl d g) cs b = (refl, refl, refl, inl refl)
statement-plain span (kind.TsInterfaceDecl d) cs b = (refl, refl, refl, inl refl)
statement-plain span (kind.TsTypeAliasDecl d) cs b = (refl, refl, refl, inl refl)
statement-plain span _ cs b = no b

-- variables stay by their own word, whatever their names are
pub variables-item : (k : Kind) (cs ds : List Node) → is_variables k ≡ true → item_by k cs ≡ item_by k ds
unfolding value_by is_declared
variables-item (kind.VarDecl word declare) cs ds h = refl
variables-item _ cs ds h = no h

-- ---- empty statements

pub full-roll : (span : Span) (k : Kind) (cs : List Node) → is_full (node_of span k cs) ≡ not (is_empty_stmt k)
full-roll span k cs = ap (λ z. not (is_empty_stmt z)) (kind-roll span k cs)

pub expr-full : (k : Kind) → is_expr k ≡ true → not (is_empty_stmt k) ≡ true
expr-full kind.EmptyStmt h = no h
expr-full _ h = refl

pub filter-all : {X : Type 0} (p : X → Bool) (xs : List X) → list_all p xs ≡ true → filter p xs ≡ xs
filter-all p [] h = refl
filter-all p (x ∷ xs) h =
    let parts = both (p x) (list_all p xs) h in
    ap (λ b. cond b (x ∷ filter p xs) (filter p xs)) parts.0 ∙ ap (λ z. x ∷ z) (filter-all p xs parts.1)

pub filter-none : {X : Type 0} (p : X → Bool) (x : X) → p x ≡ false → filter p (x ∷ []) ≡ []
filter-none p x h = ap (λ b. cond b (x ∷ []) []) h

-- ---- shapes of children

pub shape-at : (shapes : List Shape) (cs : List Node) (i : ℕ) (c : Node) → HaveShapes shapes cs → slice_get cs i ≡ Some c → (u : Shape) × (slice_get shapes i ≡ Some u) × HasShape u c
shape-at [] [] i c h at = cc
shape-at [] (d ∷ ds) i c h at = absurd h
shape-at (u ∷ us) [] i c h at = absurd h
shape-at (u ∷ us) (d ∷ ds) zero c h at = (u, refl, subst (HasShape u) (some-same d c at) h.0)
shape-at (u ∷ us) (d ∷ ds) (suc i) c h at = shape-at us ds i c h.1 at

-- what holds of each child of a shape without its types
pub child-at : (j : ℕ) (t : Shape) (shapes : List Shape) (cs : List Node) (Q : Node → Type 0) → slice_get shapes j ≡ Some t → HaveShapes shapes cs → ((n : Node) → HasShape t n → Q (stripped n))
    → (x : Node) → slice_get (map stripped cs) j ≡ Some x → Q x
child-at j t [] [] Q e h all x at = cc
child-at j t [] (c ∷ cs) Q e h all x at = absurd h
child-at j t (u ∷ us) [] Q e h all x at = absurd h
child-at zero t (u ∷ us) (c ∷ cs) Q e h all x at = subst Q (some-same (stripped c) x at) (all c (subst (λ z. HasShape z c) (some-same u t e) h.0))
child-at (suc j) t (u ∷ us) (c ∷ cs) Q e h all x at = child-at j t us cs Q e h.1 all x at

pub shape-out : (n : Node) (t : Shape) → HasShape t n → (allows t (out-Node n).kind ≡ true) × HaveShapes (child_shapes (out-Node n).kind t (length (out-Node n).children)) (out-Node n).children
shape-out n t h = (node_has_shape (out-Node n).span (out-Node n).kind (out-Node n).children t).0 (subst (HasShape t) (sym (roll-out-Node n)) h)
