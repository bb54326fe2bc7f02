-- What has to be declared in no context of free names in a node, by its kind, so that what it declares when it runs is not; and what children need, by their sorts.
use Rattle.std.proofs.Common.{◌≡◌, refl, Bool, true, false, ◌||◌}
use Rattle.ecma_kind.specs.Sorts.{belongs, is_expr}
use Rattle.ecma_kind.specs.declared.kind.Kind.{Kind}
use Rattle.ecma_kind.specs.declared.kind.Kind.TheVariants as kind
use Rattle.ecma_kind.specs.declared.operators.VarDeclKind.TheVariants as var_kind
use Rattle.ecma_kind.specs.declared.shapes.Count.{Count}
use Rattle.ecma_kind.specs.declared.shapes.Count.TheVariants.{One, Maybe, Many, MaybeMany, Holes}
use Rattle.ecma_kind.specs.declared.shapes.Sort.{Sort}
use Rattle.ecma_kind.specs.declared.shapes.Sort.TheVariants as sort
use Rattle.ecma_tree.specs.Sorted.{allows_by, is_absent, is_list}
use Rattle.ecma_tree.specs.declared.node.Node.{Node}
use Rattle.ecma_rules.specs.Statements.{is_declaration}
use Rattle.ecma_scope.specs.declared.form.Form.{Form}
use Rattle.ecma_scope.specs.declared.form.Part.{Part}
use Rattle.ecma_scope.specs.declared.form.Part.TheVariants as part
use Rattle.ecma_scope.specs.declared.form.Sought.{Sought}
use Rattle.ecma_scope.specs.declared.role.Role.{Role}
use Rattle.ecma_scope.specs.declared.role.Role.TheVariants as role
use Rattle.ecma_scope.specs.Declarations.{is_body}
use Rattle.ecma_scope.specs.Scopes.{is_default}
use Rattle.ecma_hygiene.proofs.Telling.{true-false}
use Rattle.ecma_hygiene_scopes.specs.DeclaredIds.{ids_declared}
use Rattle.ecma_runs.specs.State.{Id}
use Rattle.ecma_lower_names.proofs.Parts.{kept}

abbrev pub part_sought : Part → Sought
part_sought p = record { part = p; stays = true }

-- sorts of which no kind declares anything by itself, but in scopes of its own
abbrev pub quiet : Sort → Bool
quiet sort.Program = false
quiet sort.Module = false
quiet sort.Script = false
quiet sort.ModuleItem = false
quiet sort.ModuleDecl = false
quiet sort.Stmt = false
quiet sort.Decl = false
quiet sort.BlockStmtOrExpr = false
quiet sort.ParamOrTsParamProp = false
quiet sort.VarDeclOrExpr = false
quiet sort.ForHead = false
quiet sort.ImportSpecifier = false
quiet sort.BlockStmt = false
quiet sort.Param = false
quiet sort.SwitchCase = false
quiet sort.CatchClause = false
quiet sort.VarDeclarator = false
quiet _ = true

-- kinds that do
abbrev pub needy : Kind → Bool
needy (kind.VarDecl w d) = true
needy (kind.FnDecl d) = true
needy (kind.ClassDecl d) = true
needy kind.ExportDecl = true
needy kind.ExportDefaultDecl = true
needy (kind.ImportDecl t) = true
needy (kind.ImportNamedSpecifier t) = true
needy kind.ImportDefaultSpecifier = true
needy kind.ImportStarAsSpecifier = true
needy kind.IfStmt = true
needy kind.ForStmt = true
needy kind.ForInStmt = true
needy (kind.ForOfStmt a) = true
needy kind.WhileStmt = true
needy kind.DoWhileStmt = true
needy kind.LabeledStmt = true
needy kind.TryStmt = true
needy kind.CatchClause = true
needy kind.SwitchStmt = true
needy kind.BlockStmt = true
needy kind.SwitchCase = true
needy (kind.VarDeclarator d) = true
needy kind.Param = true
needy (kind.TsParamProp x y z) = true
needy _ = false

-- of a quiet sort no kind does
calm : (σ : Sort) (k : Kind) → needy k ≡ true → quiet σ ≡ true → belongs σ k ≡ false
calm sort.ModuleItem (kind.VarDecl w d) n q = absurd (true-false q refl)
calm sort.Stmt (kind.VarDecl w d) n q = absurd (true-false q refl)
calm sort.Decl (kind.VarDecl w d) n q = absurd (true-false q refl)
calm sort.VarDeclOrExpr (kind.VarDecl w d) n q = absurd (true-false q refl)
calm sort.ForHead (kind.VarDecl w d) n q = absurd (true-false q refl)
calm _ (kind.VarDecl w d) n q = refl
calm sort.ModuleItem (kind.FnDecl d) n q = absurd (true-false q refl)
calm sort.Stmt (kind.FnDecl d) n q = absurd (true-false q refl)
calm sort.Decl (kind.FnDecl d) n q = absurd (true-false q refl)
calm _ (kind.FnDecl d) n q = refl
calm sort.ModuleItem (kind.ClassDecl d) n q = absurd (true-false q refl)
calm sort.Stmt (kind.ClassDecl d) n q = absurd (true-false q refl)
calm sort.Decl (kind.ClassDecl d) n q = absurd (true-false q refl)
calm _ (kind.ClassDecl d) n q = refl
calm sort.ModuleItem kind.ExportDecl n q = absurd (true-false q refl)
calm sort.ModuleDecl kind.ExportDecl n q = absurd (true-false q refl)
calm _ kind.ExportDecl n q = refl
calm sort.ModuleItem kind.ExportDefaultDecl n q = absurd (true-false q refl)
calm sort.ModuleDecl kind.ExportDefaultDecl n q = absurd (true-false q refl)
calm _ kind.ExportDefaultDecl n q = refl
calm sort.ModuleItem (kind.ImportDecl t) n q = absurd (true-false q refl)
calm sort.ModuleDecl (kind.ImportDecl t) n q = absurd (true-false q refl)
calm _ (kind.ImportDecl t) n q = refl
calm sort.ImportSpecifier (kind.ImportNamedSpecifier t) n q = absurd (true-false q refl)
calm _ (kind.ImportNamedSpecifier t) n q = refl
calm sort.ImportSpecifier kind.ImportDefaultSpecifier n q = absurd (true-false q refl)
calm _ kind.ImportDefaultSpecifier n q = refl
calm sort.ImportSpecifier kind.ImportStarAsSpecifier n q = absurd (true-false q refl)
calm _ kind.ImportStarAsSpecifier n q = refl
calm sort.ModuleItem kind.IfStmt n q = absurd (true-false q refl)
calm sort.Stmt kind.IfStmt n q = absurd (true-false q refl)
calm _ kind.IfStmt n q = refl
calm sort.ModuleItem kind.ForStmt n q = absurd (true-false q refl)
calm sort.Stmt kind.ForStmt n q = absurd (true-false q refl)
calm _ kind.ForStmt n q = refl
calm sort.ModuleItem kind.ForInStmt n q = absurd (true-false q refl)
calm sort.Stmt kind.ForInStmt n q = absurd (true-false q refl)
calm _ kind.ForInStmt n q = refl
calm sort.ModuleItem (kind.ForOfStmt a) n q = absurd (true-false q refl)
calm sort.Stmt (kind.ForOfStmt a) n q = absurd (true-false q refl)
calm _ (kind.ForOfStmt a) n q = refl
calm sort.ModuleItem kind.WhileStmt n q = absurd (true-false q refl)
calm sort.Stmt kind.WhileStmt n q = absurd (true-false q refl)
calm _ kind.WhileStmt n q = refl
calm sort.ModuleItem kind.DoWhileStmt n q = absurd (true-false q refl)
calm sort.Stmt kind.DoWhileStmt n q = absurd (true-false q refl)
calm _ kind.DoWhileStmt n q = refl
calm sort.ModuleItem kind.LabeledStmt n q = absurd (true-false q refl)
calm sort.Stmt kind.LabeledStmt n q = absurd (true-false q refl)
calm _ kind.LabeledStmt n q = refl
calm sort.ModuleItem kind.TryStmt n q = absurd (true-false q refl)
calm sort.Stmt kind.TryStmt n q = absurd (true-false q refl)
calm _ kind.TryStmt n q = refl
calm sort.CatchClause kind.CatchClause n q = absurd (true-false q refl)
calm _ kind.CatchClause n q = refl
calm sort.ModuleItem kind.SwitchStmt n q = absurd (true-false q refl)
calm sort.Stmt kind.SwitchStmt n q = absurd (true-false q refl)
calm _ kind.SwitchStmt n q = refl
calm sort.ModuleItem kind.BlockStmt n q = absurd (true-false q refl)
calm sort.Stmt kind.BlockStmt n q = absurd (true-false q refl)
calm sort.BlockStmtOrExpr kind.BlockStmt n q = absurd (true-false q refl)
calm sort.BlockStmt kind.BlockStmt n q = absurd (true-false q refl)
calm _ kind.BlockStmt n q = refl
calm sort.SwitchCase kind.SwitchCase n q = absurd (true-false q refl)
calm _ kind.SwitchCase n q = refl
calm sort.VarDeclarator (kind.VarDeclarator d) n q = absurd (true-false q refl)
calm _ (kind.VarDeclarator d) n q = refl
calm sort.Param kind.Param n q = absurd (true-false q refl)
calm sort.ParamOrTsParamProp kind.Param n q = absurd (true-false q refl)
calm _ kind.Param n q = refl
calm sort.ParamOrTsParamProp (kind.TsParamProp x y z) n q = absurd (true-false q refl)
calm _ (kind.TsParamProp x y z) n q = refl
calm σ _ n q = absurd (true-false n refl)

by-test : (b : Bool) → (b ≡ true → ⊥) → b ≡ false
by-test true h = absurd (h refl)
by-test false h = refl

pub calm-kind : (σ : Sort) (k : Kind) → quiet σ ≡ true → belongs σ k ≡ true → needy k ≡ false
calm-kind σ k q b = by-test (needy k) (λ n. true-false b (calm σ k n q))

module _ (id : Id) where
  -- where the id is not found
  abbrev pub Lacks : Node → Sought → Type 0
  Lacks n q = kept id (ids_declared n q) ≡ false

  abbrev pub Clean : Part → Node → Type 0
  Clean p n = kept id (ids_declared n (record { part = p; stays = true })) ≡ false

  abbrev pub CleanNames : Node → Type 0
  CleanNames n = (f : Form) × Clean (part.Name f) n

  abbrev pub CleanItem : Node → Type 0
  CleanItem n = Clean part.Item n × Clean part.Var n

  -- the items of a list
  abbrev pub ListNeeds : Sort → Node → Type 0
  ListNeeds sort.ModuleItem n = CleanItem n
  ListNeeds sort.Stmt n = CleanItem n
  ListNeeds sort.SwitchCase n = CleanItem n
  ListNeeds sort.ImportSpecifier n = Clean part.Item n
  ListNeeds sort.VarDeclarator n = CleanNames n
  ListNeeds sort.Param n = CleanNames n
  ListNeeds sort.ParamOrTsParamProp n = CleanNames n
  ListNeeds σ n = quiet σ ≡ true

  -- what a node needs, by its role, its sort and its kind
  abbrev pub Needs : Role → Sort → Kind → Node → Type 0
  Needs r s kind.List n = ListNeeds s n
  Needs r s (kind.VarDecl var_kind.Var d) n = Clean part.Var n
  Needs r s (kind.VarDecl var_kind.Let d) n = Clean part.Item n
  Needs r s (kind.VarDecl var_kind.Const d) n = Clean part.Item n
  Needs r s (kind.FnDecl d) n = Clean part.Item n
  Needs r s (kind.ClassDecl d) n = Clean part.Item n
  Needs r s kind.ExportDecl n = CleanItem n
  Needs r s kind.ExportDefaultDecl n = Clean part.Item n
  Needs r s (kind.ImportDecl t) n = Clean part.Item n
  Needs r s (kind.ImportNamedSpecifier t) n = Clean part.Item n
  Needs r s kind.ImportDefaultSpecifier n = Clean part.Item n
  Needs r s kind.ImportStarAsSpecifier n = Clean part.Item n
  Needs r s kind.IfStmt n = Clean part.Var n
  Needs r s kind.ForStmt n = Clean part.Var n
  Needs r s kind.ForInStmt n = Clean part.Var n
  Needs r s (kind.ForOfStmt a) n = Clean part.Var n
  Needs r s kind.WhileStmt n = Clean part.Var n
  Needs r s kind.DoWhileStmt n = Clean part.Var n
  Needs r s kind.LabeledStmt n = Clean part.Var n
  Needs r s kind.TryStmt n = Clean part.Var n
  Needs r s kind.CatchClause n = Clean part.Var n
  Needs r s kind.SwitchStmt n = Clean part.Var n
  Needs r s kind.BlockStmt n = is_body r ≡ false → Clean part.Var n
  Needs r s kind.SwitchCase n = CleanItem n
  Needs r s (kind.VarDeclarator d) n = CleanNames n
  Needs r s kind.Param n = CleanNames n
  Needs r s (kind.TsParamProp x y z) n = CleanNames n
  Needs r s kind.FnExpr n = is_default r ≡ true → Clean part.Default n
  Needs r s kind.ClassExpr n = is_default r ≡ true → Clean part.Default n
  Needs r s _ n = Unit {0}

  -- what is neither a list nor such a kind, needs nothing where it is no default
  pub calm-needs : (r : Role) (s : Sort) (k : Kind) (n : Node) → needy k ≡ false → is_list k ≡ false → is_default r ≡ false → Needs r s k n
  calm-needs r s kind.List n e l f = absurd (true-false refl l)
  calm-needs r s kind.FnExpr n e l f = λ is. absurd (true-false is f)
  calm-needs r s kind.ClassExpr n e l f = λ is. absurd (true-false is f)
  calm-needs r s (kind.VarDecl w d) n e l f = absurd (true-false refl e)
  calm-needs r s (kind.FnDecl d) n e l f = absurd (true-false refl e)
  calm-needs r s (kind.ClassDecl d) n e l f = absurd (true-false refl e)
  calm-needs r s kind.ExportDecl n e l f = absurd (true-false refl e)
  calm-needs r s kind.ExportDefaultDecl n e l f = absurd (true-false refl e)
  calm-needs r s (kind.ImportDecl t) n e l f = absurd (true-false refl e)
  calm-needs r s (kind.ImportNamedSpecifier t) n e l f = absurd (true-false refl e)
  calm-needs r s kind.ImportDefaultSpecifier n e l f = absurd (true-false refl e)
  calm-needs r s kind.ImportStarAsSpecifier n e l f = absurd (true-false refl e)
  calm-needs r s kind.IfStmt n e l f = absurd (true-false refl e)
  calm-needs r s kind.ForStmt n e l f = absurd (true-false refl e)
  calm-needs r s kind.ForInStmt n e l f = absurd (true-false refl e)
  calm-needs r s (kind.ForOfStmt a) n e l f = absurd (true-false refl e)
  calm-needs r s kind.WhileStmt n e l f = absurd (true-false refl e)
  calm-needs r s kind.DoWhileStmt n e l f = absurd (true-false refl e)
  calm-needs r s kind.LabeledStmt n e l f = absurd (true-false refl e)
  calm-needs r s kind.TryStmt n e l f = absurd (true-false refl e)
  calm-needs r s kind.CatchClause n e l f = absurd (true-false refl e)
  calm-needs r s kind.SwitchStmt n e l f = absurd (true-false refl e)
  calm-needs r s kind.BlockStmt n e l f = absurd (true-false refl e)
  calm-needs r s kind.SwitchCase n e l f = absurd (true-false refl e)
  calm-needs r s (kind.VarDeclarator d) n e l f = absurd (true-false refl e)
  calm-needs r s kind.Param n e l f = absurd (true-false refl e)
  calm-needs r s (kind.TsParamProp x y z) n e l f = absurd (true-false refl e)
  calm-needs r s _ n e l f = tt

  quiet-list : (σ : Sort) (n : Node) → quiet σ ≡ true → ListNeeds σ n
  quiet-list sort.ModuleItem n q = absurd (true-false q refl)
  quiet-list sort.Stmt n q = absurd (true-false q refl)
  quiet-list sort.SwitchCase n q = absurd (true-false q refl)
  quiet-list sort.ImportSpecifier n q = absurd (true-false q refl)
  quiet-list sort.VarDeclarator n q = absurd (true-false q refl)
  quiet-list sort.Param n q = absurd (true-false q refl)
  quiet-list sort.ParamOrTsParamProp n q = absurd (true-false q refl)
  quiet-list _ n q = q

  pub list-needs : (r : Role) (s : Sort) (k : Kind) (n : Node) → is_list k ≡ true → ListNeeds s n → Needs r s k n
  list-needs r s kind.List n l h = h
  list-needs r s _ n l h = absurd (true-false l refl)

  pub absent-needs : (r : Role) (s : Sort) (k : Kind) (n : Node) → is_absent k ≡ true → Needs r s k n
  absent-needs r s kind.Absent n a = tt
  absent-needs r s _ n a = absurd (true-false a refl)

  single-needs : (r : Role) (s : Sort) (k : Kind) (n : Node) → quiet s ≡ true → belongs s k ≡ true → is_default r ≡ false → (b : Bool) → is_list k ≡ b → Needs r s k n
  single-needs r s k n q a d true l = list-needs r s k n l (quiet-list s n q)
  single-needs r s k n q a d false l = calm-needs r s k n (calm-kind s k q a) l d

  either : (a b : Bool) {A : Type 0} → (a || b) ≡ true → (a ≡ true → A) → (b ≡ true → A) → A
  either true b h f g = f refl
  either false b h f g = g h

  pub quiet-needs : (r : Role) (c : Count) (σ : Sort) (k : Kind) (n : Node) → quiet σ ≡ true → allows_by c σ k ≡ true → is_default r ≡ false → Needs r σ k n
  quiet-needs r One σ k n q a d = single-needs r σ k n q a d (is_list k) refl
  quiet-needs r Maybe σ k n q a d =
      either (is_absent k) (belongs σ k) a (absent-needs r σ k n) (λ b. single-needs r σ k n q b d (is_list k) refl)
  quiet-needs r Many σ k n q a d = list-needs r σ k n a (quiet-list σ n q)
  quiet-needs r MaybeMany σ k n q a d =
      either (is_absent k) (is_list k) a (absent-needs r σ k n) (λ b. list-needs r σ k n b (quiet-list σ n q))
  quiet-needs r Holes σ k n q a d = list-needs r σ k n a (quiet-list σ n q)

  -- ---- items, bodies and heads

  pub item-needs : (r : Role) (s : Sort) (k : Kind) (n : Node) → belongs sort.ModuleItem k ≡ true → is_default r ≡ false → Clean part.Item n → Clean part.Var n → Needs r s k n
  item-needs r s (kind.VarDecl var_kind.Var d) n b e i v = v
  item-needs r s (kind.VarDecl var_kind.Let d) n b e i v = i
  item-needs r s (kind.VarDecl var_kind.Const d) n b e i v = i
  item-needs r s (kind.FnDecl d) n b e i v = i
  item-needs r s (kind.ClassDecl d) n b e i v = i
  item-needs r s kind.ExportDecl n b e i v = (i, v)
  item-needs r s kind.ExportDefaultDecl n b e i v = i
  item-needs r s (kind.ImportDecl t) n b e i v = i
  item-needs r s (kind.ImportNamedSpecifier t) n b e i v = absurd (true-false b refl)
  item-needs r s kind.ImportDefaultSpecifier n b e i v = absurd (true-false b refl)
  item-needs r s kind.ImportStarAsSpecifier n b e i v = absurd (true-false b refl)
  item-needs r s kind.IfStmt n b e i v = v
  item-needs r s kind.ForStmt n b e i v = v
  item-needs r s kind.ForInStmt n b e i v = v
  item-needs r s (kind.ForOfStmt a) n b e i v = v
  item-needs r s kind.WhileStmt n b e i v = v
  item-needs r s kind.DoWhileStmt n b e i v = v
  item-needs r s kind.LabeledStmt n b e i v = v
  item-needs r s kind.TryStmt n b e i v = v
  item-needs r s kind.CatchClause n b e i v = absurd (true-false b refl)
  item-needs r s kind.SwitchStmt n b e i v = v
  item-needs r s kind.BlockStmt n b e i v = λ h. v
  item-needs r s kind.SwitchCase n b e i v = absurd (true-false b refl)
  item-needs r s (kind.VarDeclarator d) n b e i v = absurd (true-false b refl)
  item-needs r s kind.Param n b e i v = absurd (true-false b refl)
  item-needs r s (kind.TsParamProp x y z) n b e i v = absurd (true-false b refl)
  item-needs r s kind.List n b e i v = absurd (true-false b refl)
  item-needs r s kind.FnExpr n b e i v = absurd (true-false b refl)
  item-needs r s kind.ClassExpr n b e i v = absurd (true-false b refl)
  item-needs r s _ n b e i v = tt

  pub body-needs : (r : Role) (s : Sort) (k : Kind) (n : Node) → belongs sort.Stmt k ≡ true → is_declaration k ≡ false → Clean part.Var n → Needs r s k n
  unfolding is_declaration
  body-needs r s (kind.VarDecl var_kind.Var d) n b e v = v
  body-needs r s (kind.VarDecl var_kind.Let true) n b e v = absurd (true-false refl e)
  body-needs r s (kind.VarDecl var_kind.Let false) n b e v = absurd (true-false refl e)
  body-needs r s (kind.VarDecl var_kind.Const true) n b e v = absurd (true-false refl e)
  body-needs r s (kind.VarDecl var_kind.Const false) n b e v = absurd (true-false refl e)
  body-needs r s (kind.FnDecl d) n b e v = absurd (true-false refl e)
  body-needs r s (kind.ClassDecl d) n b e v = absurd (true-false refl e)
  body-needs r s kind.ExportDecl n b e v = absurd (true-false b refl)
  body-needs r s kind.ExportDefaultDecl n b e v = absurd (true-false b refl)
  body-needs r s (kind.ImportDecl t) n b e v = absurd (true-false b refl)
  body-needs r s (kind.ImportNamedSpecifier t) n b e v = absurd (true-false b refl)
  body-needs r s kind.ImportDefaultSpecifier n b e v = absurd (true-false b refl)
  body-needs r s kind.ImportStarAsSpecifier n b e v = absurd (true-false b refl)
  body-needs r s kind.IfStmt n b e v = v
  body-needs r s kind.ForStmt n b e v = v
  body-needs r s kind.ForInStmt n b e v = v
  body-needs r s (kind.ForOfStmt a) n b e v = v
  body-needs r s kind.WhileStmt n b e v = v
  body-needs r s kind.DoWhileStmt n b e v = v
  body-needs r s kind.LabeledStmt n b e v = v
  body-needs r s kind.TryStmt n b e v = v
  body-needs r s kind.CatchClause n b e v = absurd (true-false b refl)
  body-needs r s kind.SwitchStmt n b e v = v
  body-needs r s kind.BlockStmt n b e v = λ h. v
  body-needs r s kind.SwitchCase n b e v = absurd (true-false b refl)
  body-needs r s (kind.VarDeclarator d) n b e v = absurd (true-false b refl)
  body-needs r s kind.Param n b e v = absurd (true-false b refl)
  body-needs r s (kind.TsParamProp x y z) n b e v = absurd (true-false b refl)
  body-needs r s kind.List n b e v = absurd (true-false b refl)
  body-needs r s kind.FnExpr n b e v = absurd (true-false b refl)
  body-needs r s kind.ClassExpr n b e v = absurd (true-false b refl)
  body-needs r s _ n b e v = tt

  pub maybe-body-needs : (r : Role) (s : Sort) (k : Kind) (n : Node) → allows_by Maybe sort.Stmt k ≡ true → is_declaration k ≡ false → Clean part.Var n → Needs r s k n
  maybe-body-needs r s k n a e v = either (is_absent k) (belongs sort.Stmt k) a (absent-needs r s k n) (λ b. body-needs r s k n b e v)

  pub block-needs : (r : Role) (s : Sort) (k : Kind) (n : Node) → belongs sort.BlockStmt k ≡ true → (is_body r ≡ false → Clean part.Var n) → Needs r s k n
  block-needs r s kind.BlockStmt n b v = v
  block-needs r s _ n b v = absurd (true-false b refl)

  pub maybe-block-needs : (r : Role) (s : Sort) (k : Kind) (n : Node) → allows_by Maybe sort.BlockStmt k ≡ true → (is_body r ≡ false → Clean part.Var n) → Needs r s k n
  maybe-block-needs r s k n a v = either (is_absent k) (belongs sort.BlockStmt k) a (absent-needs r s k n) (λ b. block-needs r s k n b v)

  expr-needs : (r : Role) (s : Sort) (k : Kind) (n : Node) → is_expr k ≡ true → is_default r ≡ false → Needs r s k n
  expr-needs r s kind.List n b d = absurd (true-false b refl)
  expr-needs r s k n b d = calm-needs r s k n (calm-kind sort.Expr k refl b) (by-test (is_list k) (λ l. no-list k l b)) d
    where
      no-list : (k : Kind) → is_list k ≡ true → is_expr k ≡ true → ⊥
      no-list kind.List l b = true-false b refl
      no-list _ l b = true-false l refl

  pub arrow-needs : (s : Sort) (k : Kind) (n : Node) → belongs sort.BlockStmtOrExpr k ≡ true → Needs role.Body s k n
  arrow-needs s kind.BlockStmt n b = λ e. absurd (true-false refl e)
  arrow-needs s k n b = expr-needs role.Body s k n b refl

  pattern-needs : (r : Role) (s : Sort) (k : Kind) (n : Node) → belongs sort.Pat k ≡ true → is_default r ≡ false → Needs r s k n
  pattern-needs r s k n b d = calm-needs r s k n (calm-kind sort.Pat k refl b) (by-test (is_list k) (λ l. no-list k l b)) d
    where
      no-list : (k : Kind) → is_list k ≡ true → belongs sort.Pat k ≡ true → ⊥
      no-list kind.List l b = true-false b refl
      no-list _ l b = true-false l refl

  pub head-needs : (r : Role) (s : Sort) (k : Kind) (n : Node) → belongs sort.ForHead k ≡ true → is_default r ≡ false → Clean part.Item n → Clean part.Var n → Needs r s k n
  head-needs r s (kind.VarDecl var_kind.Var d) n b e i v = v
  head-needs r s (kind.VarDecl var_kind.Let d) n b e i v = i
  head-needs r s (kind.VarDecl var_kind.Const d) n b e i v = i
  head-needs r s k n b e i v = pattern-needs r s k n b e

  init-needs : (r : Role) (s : Sort) (k : Kind) (n : Node) → belongs sort.VarDeclOrExpr k ≡ true → is_default r ≡ false → Clean part.Item n → Clean part.Var n → Needs r s k n
  init-needs r s (kind.VarDecl var_kind.Var d) n b e i v = v
  init-needs r s (kind.VarDecl var_kind.Let d) n b e i v = i
  init-needs r s (kind.VarDecl var_kind.Const d) n b e i v = i
  init-needs r s k n b e i v = expr-needs r s k n b e

  pub maybe-init-needs : (r : Role) (s : Sort) (k : Kind) (n : Node) → allows_by Maybe sort.VarDeclOrExpr k ≡ true → is_default r ≡ false → Clean part.Item n → Clean part.Var n → Needs r s k n
  maybe-init-needs r s k n a e i v = either (is_absent k) (belongs sort.VarDeclOrExpr k) a (absent-needs r s k n) (λ b. init-needs r s k n b e i v)

  pub catch-needs : (r : Role) (s : Sort) (k : Kind) (n : Node) → allows_by Maybe sort.CatchClause k ≡ true → Clean part.Var n → Needs r s k n
  catch-needs r s kind.Absent n a v = tt
  catch-needs r s kind.CatchClause n a v = v
  catch-needs r s _ n a v = absurd (true-false a refl)

  pub declaration-needs : (r : Role) (s : Sort) (k : Kind) (n : Node) → belongs sort.Decl k ≡ true → Clean part.Item n → Clean part.Var n → Needs r s k n
  declaration-needs r s (kind.VarDecl var_kind.Var d) n b i v = v
  declaration-needs r s (kind.VarDecl var_kind.Let d) n b i v = i
  declaration-needs r s (kind.VarDecl var_kind.Const d) n b i v = i
  declaration-needs r s (kind.FnDecl d) n b i v = i
  declaration-needs r s (kind.ClassDecl d) n b i v = i
  declaration-needs r s (kind.TsInterfaceDecl d) n b i v = tt
  declaration-needs r s (kind.TsTypeAliasDecl d) n b i v = tt
  declaration-needs r s (kind.TsEnumDecl d c) n b i v = tt
  declaration-needs r s (kind.TsModuleDecl d g) n b i v = tt
  declaration-needs r s _ n b i v = absurd (true-false b refl)

  pub default-needs : (r : Role) (s : Sort) (k : Kind) (n : Node) → belongs sort.DefaultDecl k ≡ true → Clean part.Default n → Needs r s k n
  default-needs r s kind.ClassExpr n b v = λ e. v
  default-needs r s kind.FnExpr n b v = λ e. v
  default-needs r s (kind.TsInterfaceDecl d) n b v = tt
  default-needs r s _ n b v = absurd (true-false b refl)

  pub specifier-needs : (r : Role) (s : Sort) (k : Kind) (n : Node) → belongs sort.ImportSpecifier k ≡ true → Clean part.Item n → Needs r s k n
  specifier-needs r s (kind.ImportNamedSpecifier t) n b i = i
  specifier-needs r s kind.ImportDefaultSpecifier n b i = i
  specifier-needs r s kind.ImportStarAsSpecifier n b i = i
  specifier-needs r s _ n b i = absurd (true-false b refl)

  pub case-needs : (r : Role) (s : Sort) (k : Kind) (n : Node) → belongs sort.SwitchCase k ≡ true → CleanItem n → Needs r s k n
  case-needs r s kind.SwitchCase n b v = v
  case-needs r s _ n b v = absurd (true-false b refl)

  pub declarator-needs : (r : Role) (s : Sort) (k : Kind) (n : Node) → belongs sort.VarDeclarator k ≡ true → CleanNames n → Needs r s k n
  declarator-needs r s (kind.VarDeclarator d) n b v = v
  declarator-needs r s _ n b v = absurd (true-false b refl)

  pub parameter-needs : (r : Role) (s : Sort) (k : Kind) (n : Node) → belongs sort.Param k ≡ true → CleanNames n → Needs r s k n
  parameter-needs r s kind.Param n b v = v
  parameter-needs r s _ n b v = absurd (true-false b refl)

  pub property-needs : (r : Role) (s : Sort) (k : Kind) (n : Node) → belongs sort.ParamOrTsParamProp k ≡ true → CleanNames n → Needs r s k n
  property-needs r s kind.Param n b v = v
  property-needs r s (kind.TsParamProp x y z) n b v = v
  property-needs r s _ n b v = absurd (true-false b refl)
