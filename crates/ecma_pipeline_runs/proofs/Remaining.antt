-- Nodes that remain where their types go, and their children.
use Rattle.std.proofs.Common.{◌≡◌, ℕ, zero, suc, Bool, true, false, ◌&&◌, ◌||◌, not, cond, List, [], ◌∷◌, Some, refl, sym, ap, ◌∙◌, slice_get}
use Rattle.ecma_kind.specs.Sorts.{belongs}
use Rattle.ecma_kind.specs.declared.kind.Kind.{Kind}
use Rattle.ecma_kind.specs.declared.kind.Kind.TheVariants as kind
use Rattle.ecma_kind.specs.declared.operators.VarDeclKind.{VarDeclKind}
use Rattle.ecma_kind.specs.declared.shapes.Count.{Count}
use Rattle.ecma_kind.specs.declared.shapes.Count.TheVariants.{One, Maybe, Many, MaybeMany, Holes}
use Rattle.ecma_kind.specs.declared.shapes.Shape.{Shape}
use Rattle.ecma_kind.specs.declared.shapes.Sort.{Sort}
use Rattle.ecma_kind.specs.declared.shapes.Sort.TheVariants as sort
use Rattle.ecma_tree.specs.declared.node.Node.{Node, out-Node}
use Rattle.ecma_tree.specs.Laws.{HaveShapes}
use Rattle.ecma_tree.specs.Sorted.{HasShape, allows_by, child_shapes, is_absent, is_list, maybe, one}
use Rattle.ecma_rules.specs.Statements.{is_declaration as declares_kind}
use Rattle.ecma_strip.specs.Staying.{if_there, is_declared, is_empty_stmt, is_export, item_stays, member_stays, specifier_stays, is_this_param, stays}
use Rattle.ecma_strip_runs.specs.UsualBodies.{declares_no_body, is_declaration}
use Rattle.ecma_hygiene.proofs.Telling.{and-left, and-right, or-first, or-second, true-false}
use Rattle.ecma_strip_scopes.proofs.Going.{parts-have}
use Rattle.ecma_sources.specs.TypesAlone.{has_ambient_head}
use Rattle.ecma_pipeline_runs.proofs.Nodes.{none-some, not-true, or-right, some-same}
use Rattle.ecma_tree.specs.Values.{is_value, value_by, values_in}
use Rattle.ecma_tree.proofs.Valuing.{is_value-out}

-- whether a node of this kind, which is a value or not and whose first child is written `declare` or not, remains by itself
abbrev pub remains_by : Kind → Bool → Bool → Bool
remains_by (kind.VarDecl k declare) value ambient = not declare
remains_by (kind.FnDecl declare) value ambient = value && not declare
remains_by (kind.ClassDecl declare) value ambient = not declare
remains_by (kind.ImportDecl type_only) value ambient = not type_only
remains_by kind.ExportDecl value ambient = value && not ambient
remains_by kind.ExportDefaultDecl value ambient = value
remains_by (kind.ImportNamedSpecifier is_type_only) value ambient = not is_type_only
remains_by k value ambient = true

abbrev pub first_declared : List Node → Bool
first_declared cs = if_there (slice_get cs 0) (λ c. is_declared (out-Node c).kind)

abbrev pub remains : Node → Bool
remains n = remains_by (out-Node n).kind (is_value n) (first_declared (out-Node n).children)

-- ---- what stays in a list remains

abbrev item_by : Kind → Bool → Bool → Bool
item_by k value ambient = cond (is_empty_stmt k) true (cond (belongs sort.ModuleItem k) (value && not (cond (is_export k) ambient (is_declared k))) true)

stays-by : (k : Kind) (value ambient : Bool) (vs : List Bool) → value ≡ value_by k vs → item_by k value ambient ≡ true → specifier_stays k ≡ true → remains_by k value ambient ≡ true
unfolding value_by is_declared specifier_stays
stays-by (kind.VarDecl k d) value ambient vs is h s = and-right value (not d) h
stays-by (kind.FnDecl d) value ambient vs is h s = h
stays-by (kind.ClassDecl d) value ambient vs is h s = and-right value (not d) h
stays-by (kind.ImportDecl t) value ambient vs is h s = sym is ∙ and-left value true h
stays-by kind.ExportDecl value ambient vs is h s = h
stays-by kind.ExportDefaultDecl value ambient vs is h s = and-left value true h
stays-by (kind.ImportNamedSpecifier t) value ambient vs is h s = s
stays-by _ value ambient vs is h s = refl

pub stays-remains : (n : Node) → stays n ≡ true → remains n ≡ true
unfolding stays
stays-remains n h =
    let three = and-left ((item_stays n && member_stays n) && specifier_stays (out-Node n).kind) (not (is_this_param n)) h in
    let two = and-left (item_stays n && member_stays n) (specifier_stays (out-Node n).kind) three in
    stays-by (out-Node n).kind (is_value n) (first_declared (out-Node n).children) (values_in true (out-Node n).kind (out-Node n).children) (is_value-out n)
    (and-left (item_stays n) (member_stays n) two) (and-right (item_stays n && member_stays n) (specifier_stays (out-Node n).kind) three)

-- ---- so does what is of a sort that has no items

abbrev pub is_busy : Sort → Bool
is_busy sort.ModuleItem = true
is_busy sort.ModuleDecl = true
is_busy sort.Stmt = true
is_busy sort.Decl = true
is_busy sort.VarDeclOrExpr = true
is_busy sort.ForHead = true
is_busy sort.ImportSpecifier = true
is_busy _ = false

abbrev pub is_many : Count → Bool
is_many One = false
is_many Maybe = false
is_many _ = true

abbrev pub is_calm : Shape → Bool
is_calm o = is_many o.count || not (is_busy o.sort)

-- a kind that is of such sorts alone stands nowhere else
module _ (special : Sort → Bool) (k : Kind) (is : (σ : Sort) → belongs σ k ≡ true → special σ ≡ true) (there : is_absent k ≡ false) (single : is_list k ≡ false) where
  not-both : (b : Bool) → not b ≡ true → b ≡ true → ⊥
  not-both true h g = true-false h refl
  not-both false h g = true-false g refl

  pub restless : (c : Count) (σ : Sort) → (is_many c || not (special σ)) ≡ true → allows_by c σ k ≡ true → ⊥
  restless One σ calm a = not-both (special σ) calm (is σ a)
  restless Maybe σ calm a = not-both (special σ) calm (is σ (or-right (is_absent k) (belongs σ k) there a))
  restless Many σ calm a = true-false a single
  restless MaybeMany σ calm a = true-false (or-right (is_absent k) (is_list k) there a) single
  restless Holes σ calm a = true-false a single

var-busy : (w : VarDeclKind) (d : Bool) (σ : Sort) → belongs σ (kind.VarDecl w d) ≡ true → is_busy σ ≡ true
var-busy w d sort.Program h = absurd (true-false h refl)
var-busy w d _ h = cc

function-busy : (d : Bool) (σ : Sort) → belongs σ (kind.FnDecl d) ≡ true → is_busy σ ≡ true
function-busy d sort.Program h = absurd (true-false h refl)
function-busy d _ h = cc

class-busy : (d : Bool) (σ : Sort) → belongs σ (kind.ClassDecl d) ≡ true → is_busy σ ≡ true
class-busy d sort.Program h = absurd (true-false h refl)
class-busy d _ h = cc

import-busy : (t : Bool) (σ : Sort) → belongs σ (kind.ImportDecl t) ≡ true → is_busy σ ≡ true
import-busy t sort.Program h = absurd (true-false h refl)
import-busy t _ h = cc

export-busy : (σ : Sort) → belongs σ kind.ExportDecl ≡ true → is_busy σ ≡ true
export-busy sort.Program h = absurd (true-false h refl)
export-busy _ h = cc

default-busy : (σ : Sort) → belongs σ kind.ExportDefaultDecl ≡ true → is_busy σ ≡ true
default-busy sort.Program h = absurd (true-false h refl)
default-busy _ h = cc

specifier-busy : (t : Bool) (σ : Sort) → belongs σ (kind.ImportNamedSpecifier t) ≡ true → is_busy σ ≡ true
specifier-busy t sort.Program h = absurd (true-false h refl)
specifier-busy t _ h = cc

calm-by : (k : Kind) (c : Count) (σ : Sort) (value ambient : Bool) → (is_many c || not (is_busy σ)) ≡ true → allows_by c σ k ≡ true → remains_by k value ambient ≡ true
calm-by (kind.VarDecl w d) c σ value ambient calm a = absurd (restless is_busy (kind.VarDecl w d) (var-busy w d) refl refl c σ calm a)
calm-by (kind.FnDecl d) c σ value ambient calm a = absurd (restless is_busy (kind.FnDecl d) (function-busy d) refl refl c σ calm a)
calm-by (kind.ClassDecl d) c σ value ambient calm a = absurd (restless is_busy (kind.ClassDecl d) (class-busy d) refl refl c σ calm a)
calm-by (kind.ImportDecl t) c σ value ambient calm a = absurd (restless is_busy (kind.ImportDecl t) (import-busy t) refl refl c σ calm a)
calm-by kind.ExportDecl c σ value ambient calm a = absurd (restless is_busy kind.ExportDecl export-busy refl refl c σ calm a)
calm-by kind.ExportDefaultDecl c σ value ambient calm a = absurd (restless is_busy kind.ExportDefaultDecl default-busy refl refl c σ calm a)
calm-by (kind.ImportNamedSpecifier t) c σ value ambient calm a = absurd (restless is_busy (kind.ImportNamedSpecifier t) (specifier-busy t) refl refl c σ calm a)
calm-by _ c σ value ambient calm a = refl

pub calm-remains : (c : Node) (o : Shape) → HasShape o c → is_calm o ≡ true → remains c ≡ true
calm-remains c o has calm = calm-by (out-Node c).kind o.count o.sort (is_value c) (first_declared (out-Node c).children) calm (parts-have c o has).0

abbrev pub all_calm : List Shape → Bool
all_calm [] = true
all_calm (o ∷ os) = is_calm o && all_calm os

-- ---- bodies of statements, heads of loops, and what is exported

body-by : (k : Kind) (value ambient : Bool) → (is_absent k || belongs sort.Stmt k) ≡ true → declares_kind k ≡ false → remains_by k value ambient ≡ true
unfolding declares_kind
body-by (kind.VarDecl w true) value ambient a h = absurd (true-false refl h)
body-by (kind.VarDecl w false) value ambient a h = refl
body-by (kind.FnDecl d) value ambient a h = absurd (true-false refl h)
body-by (kind.ClassDecl d) value ambient a h = absurd (true-false refl h)
body-by (kind.ImportDecl t) value ambient a h = absurd (true-false a refl)
body-by kind.ExportDecl value ambient a h = absurd (true-false a refl)
body-by kind.ExportDefaultDecl value ambient a h = absurd (true-false a refl)
body-by (kind.ImportNamedSpecifier t) value ambient a h = absurd (true-false a refl)
body-by _ value ambient a h = refl

head-by : (k : Kind) (value ambient : Bool) → (is_absent k || (belongs sort.VarDeclOrExpr k || belongs sort.ForHead k)) ≡ true → is_declared k ≡ false → remains_by k value ambient ≡ true
unfolding is_declared
head-by (kind.VarDecl w d) value ambient a h = ap not h
head-by (kind.FnDecl d) value ambient a h = absurd (true-false a refl)
head-by (kind.ClassDecl d) value ambient a h = absurd (true-false a refl)
head-by (kind.ImportDecl t) value ambient a h = absurd (true-false a refl)
head-by kind.ExportDecl value ambient a h = absurd (true-false a refl)
head-by kind.ExportDefaultDecl value ambient a h = absurd (true-false a refl)
head-by (kind.ImportNamedSpecifier t) value ambient a h = absurd (true-false a refl)
head-by _ value ambient a h = refl

exported-by : (k : Kind) (value ambient : Bool) → belongs sort.Decl k ≡ true → (value && not (is_declared k)) ≡ true → remains_by k value ambient ≡ true
unfolding is_declared
exported-by (kind.VarDecl w d) value ambient a h = and-right value (not d) h
exported-by (kind.FnDecl d) value ambient a h = h
exported-by (kind.ClassDecl d) value ambient a h = and-right value (not d) h
exported-by (kind.ImportDecl t) value ambient a h = absurd (true-false a refl)
exported-by kind.ExportDecl value ambient a h = absurd (true-false a refl)
exported-by kind.ExportDefaultDecl value ambient a h = absurd (true-false a refl)
exported-by (kind.ImportNamedSpecifier t) value ambient a h = absurd (true-false a refl)
exported-by _ value ambient a h = refl

maybe-first : (a b c : Bool) → (a || b) ≡ true → (a || (b || c)) ≡ true
maybe-first true b c h = refl
maybe-first false b c h = or-first b c h

body-remains : (c : Node) → HasShape (maybe sort.Stmt) c → is_declaration c ≡ false → remains c ≡ true
body-remains c has = body-by (out-Node c).kind (is_value c) (first_declared (out-Node c).children) (parts-have c (maybe sort.Stmt) has).0

one-body : (c : Node) → HasShape (one sort.Stmt) c → is_declaration c ≡ false → remains c ≡ true
one-body c has = body-by (out-Node c).kind (is_value c) (first_declared (out-Node c).children) (or-second (is_absent (out-Node c).kind) (belongs sort.Stmt (out-Node c).kind) (parts-have c (one sort.Stmt) has).0)

init-remains : (c : Node) → HasShape (maybe sort.VarDeclOrExpr) c → is_declared (out-Node c).kind ≡ false → remains c ≡ true
init-remains c has =
    head-by (out-Node c).kind (is_value c) (first_declared (out-Node c).children) (maybe-first (is_absent (out-Node c).kind) (belongs sort.VarDeclOrExpr (out-Node c).kind) (belongs sort.ForHead (out-Node c).kind) (parts-have c (maybe sort.VarDeclOrExpr) has).0)

left-remains : (c : Node) → HasShape (one sort.ForHead) c → is_declared (out-Node c).kind ≡ false → remains c ≡ true
left-remains c has =
    let k = (out-Node c).kind in
    head-by k (is_value c) (first_declared (out-Node c).children) (or-second (is_absent k) (belongs sort.VarDeclOrExpr k || belongs sort.ForHead k) (or-second (belongs sort.VarDeclOrExpr k) (belongs sort.ForHead k) (parts-have c (one sort.ForHead) has).0))

exported-remains : (c : Node) → HasShape (one sort.Decl) c → (is_value c && not (is_declared (out-Node c).kind)) ≡ true → remains c ≡ true
exported-remains c has = exported-by (out-Node c).kind (is_value c) (first_declared (out-Node c).children) (parts-have c (one sort.Decl) has).0

-- ---- the children of what remains

-- kinds in whose children values are looked for
abbrev pub holds_items : Kind → Bool
holds_items (kind.Module shebang) = true
holds_items (kind.Script shebang) = true
holds_items kind.TsModuleBlock = true
holds_items kind.BlockStmt = true
holds_items kind.TryStmt = true
holds_items kind.CatchClause = true
holds_items kind.SwitchStmt = true
holds_items kind.SwitchCase = true
holds_items (kind.ImportDecl type_only) = true
holds_items kind.ExportDecl = true
holds_items kind.IfStmt = true
holds_items kind.LabeledStmt = true
holds_items kind.WhileStmt = true
holds_items kind.DoWhileStmt = true
holds_items kind.ForStmt = true
holds_items kind.ForInStmt = true
holds_items (kind.ForOfStmt is_await) = true
holds_items k = false

abbrev pub Remain : List Node → Type 0
Remain cs = (i : ℕ) (c : Node) → slice_get cs i ≡ Some c → remains c ≡ true

at-one : (a : Node) → remains a ≡ true → Remain (a ∷ [])
at-one a h zero c at = ap remains (sym (some-same at)) ∙ h
at-one a h (suc i) c at = none-some at

at-next : (a : Node) (cs : List Node) → remains a ≡ true → Remain cs → Remain (a ∷ cs)
at-next a cs h hs zero c at = ap remains (sym (some-same at)) ∙ h
at-next a cs h hs (suc i) c at = hs i c at

pub all-calm-remain : (os : List Shape) (cs : List Node) → HaveShapes os cs → all_calm os ≡ true → Remain cs
all-calm-remain [] [] have calm i c at = none-some at
all-calm-remain [] (x ∷ xs) have calm i c at = absurd have
all-calm-remain (o ∷ os) [] have calm i c at = absurd have
all-calm-remain (o ∷ os) (x ∷ xs) have calm i c at =
    at-next x xs (calm-remains x o have.0 (and-left (is_calm o) (all_calm os) calm)) (all-calm-remain os xs have.1 (and-right (is_calm o) (all_calm os) calm)) i c at

calm-expression : (c : Node) → HasShape (one sort.Expr) c → remains c ≡ true
calm-expression c has = calm-remains c (one sort.Expr) has refl

pub children-remain : (k : Kind) (cs : List Node) (s : Shape) (m : ℕ) → holds_items k ≡ true → HaveShapes (child_shapes k s m) cs → declares_no_body k cs ≡ true → has_ambient_head k cs ≡ false
    → remains_by k (value_by k (values_in true k cs)) (first_declared cs) ≡ true → Remain cs
unfolding value_by
children-remain (kind.Module x) cs s m p have b h r = all-calm-remain (child_shapes (kind.Module x) s m) cs have refl
children-remain (kind.Script x) cs s m p have b h r = all-calm-remain (child_shapes (kind.Script x) s m) cs have refl
children-remain kind.TsModuleBlock cs s m p have b h r = all-calm-remain (child_shapes kind.TsModuleBlock s m) cs have refl
children-remain kind.BlockStmt cs s m p have b h r = all-calm-remain (child_shapes kind.BlockStmt s m) cs have refl
children-remain kind.TryStmt cs s m p have b h r = all-calm-remain (child_shapes kind.TryStmt s m) cs have refl
children-remain kind.CatchClause cs s m p have b h r = all-calm-remain (child_shapes kind.CatchClause s m) cs have refl
children-remain kind.SwitchStmt cs s m p have b h r = all-calm-remain (child_shapes kind.SwitchStmt s m) cs have refl
children-remain kind.SwitchCase cs s m p have b h r = all-calm-remain (child_shapes kind.SwitchCase s m) cs have refl
children-remain (kind.ImportDecl t) cs s m p have b h r = all-calm-remain (child_shapes (kind.ImportDecl t) s m) cs have refl
children-remain kind.ExportDecl (a ∷ []) s m p have b h r = at-one a (exported-remains a have.0 r)
children-remain kind.ExportDecl [] s m p have b h r = absurd have
children-remain kind.ExportDecl (a ∷ c ∷ cs) s m p have b h r = absurd have.1
children-remain kind.IfStmt (a ∷ c ∷ d ∷ []) s m p have b h r =
    let first = and-left (not (is_declaration c)) (not (is_declaration d) && true) b in
    let second = and-left (not (is_declaration d)) true (and-right (not (is_declaration c)) (not (is_declaration d) && true) b) in
    at-next a (c ∷ d ∷ []) (calm-expression a have.0)
    (at-next c (d ∷ []) (one-body c have.1.0 (not-true (is_declaration c) first)) (at-one d (body-remains d have.1.1.0 (not-true (is_declaration d) second))))
children-remain kind.IfStmt [] s m p have b h r = absurd have
children-remain kind.IfStmt (a ∷ []) s m p have b h r = absurd have.1
children-remain kind.IfStmt (a ∷ c ∷ []) s m p have b h r = absurd have.1.1
children-remain kind.IfStmt (a ∷ c ∷ d ∷ e ∷ cs) s m p have b h r = absurd have.1.1.1
children-remain kind.LabeledStmt (a ∷ c ∷ []) s m p have b h r =
    at-next a (c ∷ []) (calm-remains a (one sort.Ident) have.0 refl) (at-one c (one-body c have.1.0 (not-true (is_declaration c) (and-left (not (is_declaration c)) true b))))
children-remain kind.LabeledStmt [] s m p have b h r = absurd have
children-remain kind.LabeledStmt (a ∷ []) s m p have b h r = absurd have.1
children-remain kind.LabeledStmt (a ∷ c ∷ d ∷ cs) s m p have b h r = absurd have.1.1
children-remain kind.WhileStmt (a ∷ c ∷ []) s m p have b h r = at-next a (c ∷ []) (calm-expression a have.0) (at-one c (one-body c have.1.0 (not-true (is_declaration c) (and-left (not (is_declaration c)) true b))))
children-remain kind.WhileStmt [] s m p have b h r = absurd have
children-remain kind.WhileStmt (a ∷ []) s m p have b h r = absurd have.1
children-remain kind.WhileStmt (a ∷ c ∷ d ∷ cs) s m p have b h r = absurd have.1.1
children-remain kind.DoWhileStmt (a ∷ c ∷ []) s m p have b h r = at-next a (c ∷ []) (calm-expression a have.0) (at-one c (one-body c have.1.0 (not-true (is_declaration c) (and-left (not (is_declaration c)) true b))))
children-remain kind.DoWhileStmt [] s m p have b h r = absurd have
children-remain kind.DoWhileStmt (a ∷ []) s m p have b h r = absurd have.1
children-remain kind.DoWhileStmt (a ∷ c ∷ d ∷ cs) s m p have b h r = absurd have.1.1
children-remain kind.ForStmt (a ∷ c ∷ d ∷ e ∷ []) s m p have b h r =
    at-next a (c ∷ d ∷ e ∷ []) (init-remains a have.0 h)
    (at-next c (d ∷ e ∷ []) (calm-remains c (maybe sort.Expr) have.1.0 refl)
    (at-next d (e ∷ []) (calm-remains d (maybe sort.Expr) have.1.1.0 refl) (at-one e (one-body e have.1.1.1.0 (not-true (is_declaration e) (and-left (not (is_declaration e)) true b))))))
children-remain kind.ForStmt [] s m p have b h r = absurd have
children-remain kind.ForStmt (a ∷ []) s m p have b h r = absurd have.1
children-remain kind.ForStmt (a ∷ c ∷ []) s m p have b h r = absurd have.1.1
children-remain kind.ForStmt (a ∷ c ∷ d ∷ []) s m p have b h r = absurd have.1.1.1
children-remain kind.ForStmt (a ∷ c ∷ d ∷ e ∷ f ∷ cs) s m p have b h r = absurd have.1.1.1.1
children-remain kind.ForInStmt (a ∷ c ∷ d ∷ []) s m p have b h r =
    at-next a (c ∷ d ∷ []) (left-remains a have.0 h) (at-next c (d ∷ []) (calm-expression c have.1.0) (at-one d (one-body d have.1.1.0 (not-true (is_declaration d) (and-left (not (is_declaration d)) true b)))))
children-remain kind.ForInStmt [] s m p have b h r = absurd have
children-remain kind.ForInStmt (a ∷ []) s m p have b h r = absurd have.1
children-remain kind.ForInStmt (a ∷ c ∷ []) s m p have b h r = absurd have.1.1
children-remain kind.ForInStmt (a ∷ c ∷ d ∷ e ∷ cs) s m p have b h r = absurd have.1.1.1
children-remain (kind.ForOfStmt w) (a ∷ c ∷ d ∷ []) s m p have b h r =
    at-next a (c ∷ d ∷ []) (left-remains a have.0 h) (at-next c (d ∷ []) (calm-expression c have.1.0) (at-one d (one-body d have.1.1.0 (not-true (is_declaration d) (and-left (not (is_declaration d)) true b)))))
children-remain (kind.ForOfStmt w) [] s m p have b h r = absurd have
children-remain (kind.ForOfStmt w) (a ∷ []) s m p have b h r = absurd have.1
children-remain (kind.ForOfStmt w) (a ∷ c ∷ []) s m p have b h r = absurd have.1.1
children-remain (kind.ForOfStmt w) (a ∷ c ∷ d ∷ e ∷ cs) s m p have b h r = absurd have.1.1.1
children-remain _ cs s m p have b h r = absurd (true-false p refl)
