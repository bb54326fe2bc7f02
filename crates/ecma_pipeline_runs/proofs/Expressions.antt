-- An expression declares nothing without its types, where values are looked for.
use Rattle.std.proofs.Common.{◌≡◌, ℕ, Bool, true, false, List, [], ◌∷◌, map, length, None, refl, ap, ◌∙◌, subst, slice_get}
use Rattle.ecma_kind.specs.Sorts.{is_expr, is_type_wrapper}
use Rattle.ecma_kind.specs.declared.kind.Kind.{Kind}
use Rattle.ecma_kind.specs.declared.kind.Kind.TheVariants as kind
use Rattle.ecma_kind.specs.declared.shapes.Shape.{Shape}
use Rattle.ecma_kind.specs.declared.shapes.Sort.TheVariants as sort
use Rattle.ecma_kind.specs.declared.span.Span.{Span}
use Rattle.ecma_tree.specs.declared.node.Node.{Node, out-Node}
use Rattle.ecma_tree.specs.Laws.{HaveShapes}
use Rattle.ecma_tree.specs.Sorted.{HasShape, child_shapes, one}
use Rattle.ecma_tree.specs.Values.{is_value}
use Rattle.ecma_scope.specs.declared.form.Part.TheVariants as part
use Rattle.ecma_scope.specs.Declarations.{in_item, in_var, sought_in}
use Rattle.ecma_strip.specs.Stripping.{plain, plain_children, plain_kind, staying_nodes, stripped}
use Rattle.ecma_strip.proofs.Stripping.{stripped-out}
use Rattle.ecma_hygiene.proofs.Telling.{true-false}
use Rattle.ecma_hygiene_scopes.specs.DeclaredIds.{id_here, ids_declared}
use Rattle.ecma_hygiene_scopes.proofs.Parts.{kind-of}
use Rattle.ecma_strip_scopes.proofs.Going.{parts-have}
use Rattle.ecma_strip_scopes.proofs.KindsKept.{wrapper-first, wrapper-plain, wrapper-some}
use Rattle.ecma_strip_scopes.proofs.Standing.{silent}
use Rattle.ecma_pipeline_runs.proofs.Nodes.{by-children}

-- ---- expressions without types

expression-plain : (k : Kind) → is_expr k ≡ true → is_expr (plain_kind k) ≡ true
unfolding plain_kind
expression-plain (kind.Ident s c o) h = refl
expression-plain _ h = h

expression-by : (k : Kind) (span : Span) (cs : List Node) → is_type_wrapper k ≡ false → is_expr k ≡ true → is_expr (out-Node (plain span k cs)).kind ≡ true
unfolding plain
expression-by kind.TsTypeAnn span cs w h = absurd (true-false h refl)
expression-by kind.TsType span cs w h = absurd (true-false h refl)
expression-by kind.TsTypeParamDecl span cs w h = absurd (true-false h refl)
expression-by kind.TsTypeParamInstantiation span cs w h = absurd (true-false h refl)
expression-by kind.TsTypeAssertion span cs w h = absurd (true-false refl w)
expression-by kind.TsConstAssertion span cs w h = absurd (true-false refl w)
expression-by kind.TsNonNullExpr span cs w h = absurd (true-false refl w)
expression-by kind.TsAsExpr span cs w h = absurd (true-false refl w)
expression-by kind.TsInstantiation span cs w h = absurd (true-false refl w)
expression-by kind.TsSatisfiesExpr span cs w h = absurd (true-false refl w)
expression-by k span cs w h = ap is_expr (kind-of span (plain_kind k) (plain_children k cs)) ∙ expression-plain k h

abbrev pub Expressive : Node → Type 0
Expressive n = (s : Shape) → HasShape s n → is_expr (out-Node n).kind ≡ true → is_expr (out-Node (stripped n)).kind ≡ true

layer-expressive : (n : Node) → ((x : Node) (xs : List Node) → (out-Node n).children ≡ x ∷ xs → Expressive x) → Expressive n
layer-expressive n below s has is_it = by (is_type_wrapper (out-Node n).kind) refl
  where
    wrapped : (cs : List Node) → (out-Node n).children ≡ cs → is_type_wrapper (out-Node n).kind ≡ true → is_expr (out-Node (stripped n)).kind ≡ true
    wrapped [] is w = absurd (wrapper-some (out-Node n).kind s 0 w (subst (λ (cs : List Node). HaveShapes (child_shapes (out-Node n).kind s (length cs)) cs) is (parts-have n s has).1))
    wrapped (x ∷ xs) is w =
        let first = wrapper-first (out-Node n).kind s (length (x ∷ xs)) x xs w (subst (λ (cs : List Node). HaveShapes (child_shapes (out-Node n).kind s (length cs)) cs) is (parts-have n s has).1) in
        ap (λ (z : Node). is_expr (out-Node z).kind) (stripped-out n ∙ ap (λ (cs : List Node). plain (out-Node n).span (out-Node n).kind (map stripped (staying_nodes (out-Node n).kind cs))) is ∙ wrapper-plain (out-Node n).kind (out-Node n).span x xs w)
        ∙ below x xs is (one sort.Expr) first (parts-have x (one sort.Expr) first).0

    by : (b : Bool) → is_type_wrapper (out-Node n).kind ≡ b → is_expr (out-Node (stripped n)).kind ≡ true
    by true w = wrapped (out-Node n).children refl w
    by false w = ap (λ (z : Node). is_expr (out-Node z).kind) (stripped-out n) ∙ expression-by (out-Node n).kind (out-Node n).span (map stripped (staying_nodes (out-Node n).kind (out-Node n).children)) w is_it

pub expressive : (n : Node) → Expressive n
expressive = by-children Expressive (λ n below. layer-expressive n (λ x xs at. below 0 x (ap (λ (cs : List Node). slice_get cs 0) at)))

-- an expression declares nothing where values are looked for
item-none : (k : Kind) (scoped : Bool) (i : ℕ) → is_expr k ≡ true → in_item true scoped k i ≡ None
unfolding in_item
item-none kind.List scoped i h = absurd (true-false h refl)
item-none kind.SwitchCase scoped i h = absurd (true-false h refl)
item-none kind.ExportDecl scoped i h = absurd (true-false h refl)
item-none kind.ExportDefaultDecl scoped i h = absurd (true-false h refl)
item-none (kind.ImportDecl t) scoped i h = absurd (true-false h refl)
item-none (kind.ImportNamedSpecifier t) scoped i h = absurd (true-false h refl)
item-none kind.ImportDefaultSpecifier scoped i h = absurd (true-false h refl)
item-none kind.ImportStarAsSpecifier scoped i h = absurd (true-false h refl)
item-none (kind.TsImportEqualsDecl e t) scoped i h = absurd (true-false h refl)
item-none (kind.VarDecl w d) scoped i h = absurd (true-false h refl)
item-none (kind.FnDecl d) scoped i h = absurd (true-false h refl)
item-none (kind.ClassDecl d) scoped i h = absurd (true-false h refl)
item-none (kind.TsEnumDecl d e) scoped i h = absurd (true-false h refl)
item-none (kind.TsModuleDecl d g) scoped i h = absurd (true-false h refl)
item-none _ scoped i h = refl

var-none : (k : Kind) → is_expr k ≡ true → in_var true k ≡ None
unfolding in_var
var-none (kind.VarDecl w d) h = absurd (true-false h refl)
var-none kind.List h = absurd (true-false h refl)
var-none (kind.Module x) h = absurd (true-false h refl)
var-none (kind.Script x) h = absurd (true-false h refl)
var-none kind.TsModuleBlock h = absurd (true-false h refl)
var-none kind.ExportDecl h = absurd (true-false h refl)
var-none kind.BlockStmt h = absurd (true-false h refl)
var-none kind.IfStmt h = absurd (true-false h refl)
var-none kind.ForStmt h = absurd (true-false h refl)
var-none kind.ForInStmt h = absurd (true-false h refl)
var-none (kind.ForOfStmt w) h = absurd (true-false h refl)
var-none kind.WhileStmt h = absurd (true-false h refl)
var-none kind.DoWhileStmt h = absurd (true-false h refl)
var-none kind.LabeledStmt h = absurd (true-false h refl)
var-none kind.TryStmt h = absurd (true-false h refl)
var-none kind.CatchClause h = absurd (true-false h refl)
var-none kind.SwitchStmt h = absurd (true-false h refl)
var-none kind.SwitchCase h = absurd (true-false h refl)
var-none _ h = refl

item-here : (k : Kind) → id_here (record { part = part.Item; stays = true }) k ≡ []
item-here (kind.Ident s c o) = refl
item-here _ = refl

var-here : (k : Kind) → id_here (record { part = part.Var; stays = true }) k ≡ []
var-here (kind.Ident s c o) = refl
var-here _ = refl

pub expression-item : (n : Node) → is_expr (out-Node n).kind ≡ true → ids_declared n (record { part = part.Item; stays = true }) ≡ []
unfolding sought_in
expression-item n h = silent n (record { part = part.Item; stays = true }) (item-here (out-Node n).kind) (λ i. item-none (out-Node n).kind (is_value n) i h)

pub expression-var : (n : Node) → is_expr (out-Node n).kind ≡ true → ids_declared n (record { part = part.Var; stays = true }) ≡ []
unfolding sought_in
expression-var n h = silent n (record { part = part.Var; stays = true }) (var-here (out-Node n).kind) (λ i. var-none (out-Node n).kind h)

pub wrapper-expression : (k : Kind) → is_type_wrapper k ≡ true → is_expr k ≡ true
wrapper-expression kind.TsTypeAssertion w = refl
wrapper-expression kind.TsConstAssertion w = refl
wrapper-expression kind.TsNonNullExpr w = refl
wrapper-expression kind.TsAsExpr w = refl
wrapper-expression kind.TsInstantiation w = refl
wrapper-expression kind.TsSatisfiesExpr w = refl
wrapper-expression _ w = absurd (true-false w refl)
