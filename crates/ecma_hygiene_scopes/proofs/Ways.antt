-- On the way to a declared name: what is looked for next, in which role, and that no scope is opened on it.
use Rattle.std.proofs.Common.{◌≡◌, ℕ, ◌==◌, Bool, true, false, ◌&&◌, not, cond, Option, Some, None, refl, sym, ap, ◌∙◌}
use Rattle.ecma_kind.specs.declared.kind.Kind.{Kind}
use Rattle.ecma_kind.specs.declared.kind.Kind.TheVariants as kind
use Rattle.ecma_kind.specs.declared.operators.VarDeclKind.TheVariants as var_kind
use Rattle.ecma_scope.specs.declared.form.Form.{Form}
use Rattle.ecma_scope.specs.declared.form.Form.TheVariants as form
use Rattle.ecma_scope.specs.declared.form.Part.{Part}
use Rattle.ecma_scope.specs.declared.form.Part.TheVariants as part
use Rattle.ecma_scope.specs.declared.form.Sought.{Sought}
use Rattle.ecma_scope.specs.declared.role.Role.{Role}
use Rattle.ecma_scope.specs.declared.role.Role.TheVariants as role
use Rattle.ecma_scope.specs.Declarations.{in_default, in_item, in_member, in_name, in_var, sought_by}
use Rattle.ecma_scope.specs.Resolved.{is_name}
use Rattle.ecma_scope.specs.Scopes.{covers, opens_by, role_by}
use Rattle.ecma_hygiene.proofs.Telling.{true-false}

abbrev pub part_of : Option Sought → Option Part
part_of (Some q) = Some q.part
part_of None = None

-- what is looked for next, where it is the item of a list, a default export, a member, a pattern, or a `var`
abbrev pub next_item : Kind → Option Part
next_item kind.List = Some part.Item
next_item kind.SwitchCase = Some part.Item
next_item kind.ExportDecl = Some part.Item
next_item kind.ExportDefaultDecl = Some part.Default
next_item (kind.ImportDecl t) = Some part.Item
next_item (kind.ImportNamedSpecifier t) = Some (part.Name form.Import)
next_item kind.ImportDefaultSpecifier = Some (part.Name form.Import)
next_item kind.ImportStarAsSpecifier = Some (part.Name form.Import)
next_item (kind.TsImportEqualsDecl e t) = Some (part.Name form.Lexical)
next_item (kind.VarDecl var_kind.Let d) = Some (part.Name form.Lexical)
next_item (kind.VarDecl var_kind.Const d) = Some (part.Name form.Lexical)
next_item (kind.FnDecl d) = Some (part.Name form.Function)
next_item (kind.ClassDecl d) = Some (part.Name form.Class)
next_item (kind.TsEnumDecl d c) = Some (part.Name form.Enum)
next_item (kind.TsModuleDecl d false) = Some (part.Name form.Namespace)
next_item _ = None

abbrev pub next_default : Kind → Option Part
next_default kind.FnExpr = Some (part.Name form.Function)
next_default kind.ClassExpr = Some (part.Name form.Class)
next_default _ = None

abbrev pub next_member : Kind → Option Part
next_member kind.List = Some part.Member
next_member kind.TsEnumMember = Some (part.Name form.Member)
next_member _ = None

abbrev pub next_name : Form → Kind → Option Part
next_name f kind.List = Some (part.Name f)
next_name f kind.BindingIdent = Some (part.Name f)
next_name f kind.Param = Some (part.Name f)
next_name f (kind.TsParamProp a o r) = Some (part.Name f)
next_name f (kind.VarDeclarator d) = Some (part.Name f)
next_name f (kind.ArrayPat o) = Some (part.Name f)
next_name f (kind.ObjectPat o) = Some (part.Name f)
next_name f kind.RestPat = Some (part.Name f)
next_name f kind.AssignPat = Some (part.Name f)
next_name f kind.AssignPatProp = Some (part.Name f)
next_name f kind.KeyValuePatProp = Some (part.Name f)
next_name f _ = None

abbrev pub next_var : Kind → Option Part
next_var (kind.VarDecl var_kind.Var d) = Some (part.Name form.Var)
next_var kind.List = Some part.Var
next_var (kind.Module s) = Some part.Var
next_var (kind.Script s) = Some part.Var
next_var kind.TsModuleBlock = Some part.Var
next_var kind.ExportDecl = Some part.Var
next_var kind.BlockStmt = Some part.Var
next_var kind.IfStmt = Some part.Var
next_var kind.ForStmt = Some part.Var
next_var kind.ForInStmt = Some part.Var
next_var (kind.ForOfStmt a) = Some part.Var
next_var kind.WhileStmt = Some part.Var
next_var kind.DoWhileStmt = Some part.Var
next_var kind.LabeledStmt = Some part.Var
next_var kind.TryStmt = Some part.Var
next_var kind.CatchClause = Some part.Var
next_var kind.SwitchStmt = Some part.Var
next_var kind.SwitchCase = Some part.Var
next_var _ = None

on-at : (b : Bool) (p : Part) (s : Bool) (q : Sought) → ◌≡◌ {A = Option Sought} (cond b (Some (record { part = p; stays = s })) None) (Some q) → ◌≡◌ {A = Option Part} (Some p) (Some q.part)
on-at true p s q h = ap part_of h
on-at false p s q h = cc

on-both : (v b : Bool) (p : Part) (s : Bool) (q : Sought) → ◌≡◌ {A = Option Sought} (cond v (cond b (Some (record { part = p; stays = s })) None) None) (Some q) → ◌≡◌ {A = Option Part} (Some p) (Some q.part)
on-both true b p s q h = on-at b p s q h
on-both false b p s q h = cc

pub item-next : (stays value : Bool) (k : Kind) (i : ℕ) (q : Sought) → in_item stays value k i ≡ Some q → next_item k ≡ Some q.part
unfolding in_item
item-next stays value kind.SwitchCase i q h = on-at (i == 1) _ _ q h
item-next stays value (kind.ImportDecl t) i q h = on-at (i == 0) _ _ q h
item-next stays value (kind.ImportNamedSpecifier t) i q h = on-at (i == 0) _ _ q h
item-next stays value (kind.TsImportEqualsDecl e t) i q h = on-at (i == 0) _ _ q h
item-next stays value (kind.FnDecl d) i q h = on-at (i == 0) _ _ q h
item-next stays value (kind.ClassDecl d) i q h = on-at (i == 0) _ _ q h
item-next stays value (kind.TsEnumDecl d c) i q h = on-at (i == 0) _ _ q h
item-next stays value (kind.VarDecl var_kind.Let d) i q h = ap part_of h
item-next stays value (kind.VarDecl _ d) i q h = ap part_of h
item-next stays value (kind.TsModuleDecl d false) i q h = on-both value (i == 0) _ _ q h
item-next stays value (kind.TsModuleDecl d true) i q h = ap part_of h
item-next stays value _ i q h = ap part_of h

pub default-next : (stays value : Bool) (k : Kind) (i : ℕ) (q : Sought) → in_default stays value k i ≡ Some q → next_default k ≡ Some q.part
unfolding in_default
default-next stays value kind.FnExpr i q h = on-at (i == 0) _ _ q h
default-next stays value kind.ClassExpr i q h = on-at (i == 0) _ _ q h
default-next stays value _ i q h = ap part_of h

pub member-next : (stays : Bool) (k : Kind) (i : ℕ) (q : Sought) → in_member stays k i ≡ Some q → next_member k ≡ Some q.part
unfolding in_member
member-next stays kind.List i q h = ap part_of h
member-next stays kind.TsEnumMember i q h = on-at (i == 0) _ _ q h
member-next stays _ i q h = ap part_of h

pub name-next : (f : Form) (stays : Bool) (k : Kind) (i : ℕ) (q : Sought) → in_name f stays k i ≡ Some q → next_name f k ≡ Some q.part
unfolding in_name
name-next f stays kind.BindingIdent i q h = on-at (i == 0) _ _ q h
name-next f stays kind.Param i q h = on-at (i == 0) _ _ q h
name-next f stays (kind.TsParamProp a o r) i q h = on-at (i == 0) _ _ q h
name-next f stays (kind.VarDeclarator d) i q h = on-at (i == 0) _ _ q h
name-next f stays (kind.ArrayPat o) i q h = on-at (i == 0) _ _ q h
name-next f stays (kind.ObjectPat o) i q h = on-at (i == 0) _ _ q h
name-next f stays kind.RestPat i q h = on-at (i == 0) _ _ q h
name-next f stays kind.AssignPat i q h = on-at (i == 0) _ _ q h
name-next f stays kind.AssignPatProp i q h = on-at (i == 0) _ _ q h
name-next f stays kind.KeyValuePatProp i q h = on-at (i == 1) _ _ q h
name-next f stays _ i q h = ap part_of h

pub var-next : (stays : Bool) (k : Kind) (q : Sought) → in_var stays k ≡ Some q → next_var k ≡ Some q.part
unfolding in_var
var-next stays (kind.VarDecl var_kind.Var d) q h = ap part_of h
var-next stays (kind.VarDecl _ d) q h = ap part_of h
var-next stays _ q h = ap part_of h

-- ---- no scope is opened on the way

and-none : (a : Bool) → (a && false) ≡ false
and-none true = refl
and-none false = refl

at-zero : (b : Bool) (p : Part) (s : Bool) (q : Sought) → ◌≡◌ {A = Option Sought} (cond b (Some (record { part = p; stays = s })) None) (Some q) → b ≡ true
at-zero true p s q h = refl
at-zero false p s q h = cc

uncovered : (o i0 : Bool) → i0 ≡ true → (o && not i0) ≡ false
uncovered o i0 is = ap (λ (b : Bool). o && not b) is ∙ and-none o

item-shut : (r : Role) (stays value : Bool) (k : Kind) (there : Bool) (i : ℕ) (q : Sought) → in_item stays value k i ≡ Some q → (opens_by r k there && covers r k i) ≡ false
unfolding in_item opens_by covers
item-shut r stays value (kind.ClassDecl d) there i q h = uncovered true (i == 0) (at-zero (i == 0) _ _ q h)
item-shut r stays value (kind.TsEnumDecl d c) there i q h = uncovered true (i == 0) (at-zero (i == 0) _ _ q h)
item-shut r stays value kind.List there i q h = refl
item-shut r stays value kind.SwitchCase there i q h = refl
item-shut r stays value kind.ExportDecl there i q h = refl
item-shut r stays value kind.ExportDefaultDecl there i q h = refl
item-shut r stays value (kind.ImportDecl t) there i q h = refl
item-shut r stays value (kind.ImportNamedSpecifier t) there i q h = refl
item-shut r stays value kind.ImportDefaultSpecifier there i q h = refl
item-shut r stays value kind.ImportStarAsSpecifier there i q h = refl
item-shut r stays value (kind.TsImportEqualsDecl e t) there i q h = refl
item-shut r stays value (kind.VarDecl v d) there i q h = refl
item-shut r stays value (kind.FnDecl d) there i q h = refl
item-shut r stays value (kind.TsModuleDecl d g) there i q h = refl
item-shut r stays value _ there i q h = cc

default-shut : (stays value : Bool) (k : Kind) (there : Bool) (i : ℕ) (q : Sought) → in_default stays value k i ≡ Some q → (opens_by role.Default k there && covers role.Default k i) ≡ false
unfolding in_default opens_by covers
default-shut stays value kind.FnExpr there i q h = ap (λ (b : Bool). b && true) (and-none there)
default-shut stays value kind.ClassExpr there i q h = uncovered true (i == 0) (at-zero (i == 0) _ _ q h)
default-shut stays value _ there i q h = cc

member-shut : (r : Role) (stays : Bool) (k : Kind) (there : Bool) (i : ℕ) (q : Sought) → in_member stays k i ≡ Some q → (opens_by r k there && covers r k i) ≡ false
unfolding in_member opens_by
member-shut r stays kind.List there i q h = refl
member-shut r stays kind.TsEnumMember there i q h = refl
member-shut r stays _ there i q h = cc

name-shut : (r : Role) (f : Form) (stays : Bool) (k : Kind) (there : Bool) (i : ℕ) (q : Sought) → in_name f stays k i ≡ Some q → (opens_by r k there && covers r k i) ≡ false
unfolding in_name opens_by
name-shut r f stays kind.List there i q h = refl
name-shut r f stays kind.BindingIdent there i q h = refl
name-shut r f stays kind.Param there i q h = refl
name-shut r f stays (kind.TsParamProp a o x) there i q h = refl
name-shut r f stays (kind.VarDeclarator d) there i q h = refl
name-shut r f stays (kind.ArrayPat o) there i q h = refl
name-shut r f stays (kind.ObjectPat o) there i q h = refl
name-shut r f stays kind.RestPat there i q h = refl
name-shut r f stays kind.AssignPat there i q h = refl
name-shut r f stays kind.AssignPatProp there i q h = refl
name-shut r f stays kind.KeyValuePatProp there i q h = refl
name-shut r f stays _ there i q h = cc

-- what may be looked for in a role, below the node that opens the scope
abbrev pub Way : Part → Role → Type 0
Way (part.Name f) r = is_name r ≡ false
Way part.Default r = r ≡ role.Default
Way part.Item r = Unit {0}
Way part.Member r = Unit {0}
Way _ r = ⊥

pub shut : (p : Part) (r : Role) (stays value : Bool) (k : Kind) (there : Bool) (i : ℕ) (q : Sought) → Way p r → sought_by p stays value k i ≡ Some q → (opens_by r k there && covers r k i) ≡ false
shut (part.Name f) r stays value k there i q way h = name-shut r f stays k there i q h
shut part.Default r stays value k there i q way h = ap (λ (z : Role). opens_by z k there && covers z k i) way ∙ default-shut stays value k there i q h
shut part.Item r stays value k there i q way h = item-shut r stays value k there i q h
shut part.Member r stays value k there i q way h = member-shut r stays k there i q h
shut _ r stays value k there i q way h = absurd way

-- ---- what is looked for next

abbrev is_way : Option Part → Bool
is_way (Some part.Scope) = false
is_way (Some part.Var) = false
is_way _ = true

abbrev pub is_default_part : Part → Bool
is_default_part part.Default = true
is_default_part _ = false

abbrev seeks_default : Option Part → Bool
seeks_default (Some p) = is_default_part p
seeks_default None = false

item-way : (k : Kind) → is_way (next_item k) ≡ true
item-way kind.List = refl
item-way (kind.VarDecl var_kind.Let d) = refl
item-way (kind.VarDecl _ d) = refl
item-way (kind.TsModuleDecl d false) = refl
item-way (kind.TsModuleDecl d true) = refl
item-way _ = refl

default-way : (k : Kind) → is_way (next_default k) ≡ true
default-way kind.FnExpr = refl
default-way _ = refl

member-way : (k : Kind) → is_way (next_member k) ≡ true
member-way kind.List = refl
member-way _ = refl

name-way : (f : Form) (k : Kind) → is_way (next_name f k) ≡ true
name-way f kind.List = refl
name-way f _ = refl

item-default : (r : Role) (k : Kind) (sourced : Bool) (i : ℕ) → seeks_default (next_item k) ≡ true → role_by r k sourced i ≡ role.Default
unfolding role_by
item-default r kind.ExportDefaultDecl sourced i h = refl
item-default r (kind.VarDecl var_kind.Let d) sourced i h = absurd (true-false h refl)
item-default r (kind.VarDecl var_kind.Const d) sourced i h = absurd (true-false h refl)
item-default r (kind.VarDecl _ d) sourced i h = absurd (true-false h refl)
item-default r (kind.TsModuleDecl d false) sourced i h = absurd (true-false h refl)
item-default r (kind.TsModuleDecl d true) sourced i h = absurd (true-false h refl)
item-default r _ sourced i h = absurd (true-false h refl)

default-default : (k : Kind) → seeks_default (next_default k) ≡ false
default-default kind.FnExpr = refl
default-default _ = refl

member-default : (k : Kind) → seeks_default (next_member k) ≡ false
member-default kind.List = refl
member-default _ = refl

name-default : (f : Form) (k : Kind) → seeks_default (next_name f k) ≡ false
name-default f kind.List = refl
name-default f _ = refl

-- the next part with the role of the child
way-by : (p : Part) (r : Role) → is_way (Some p) ≡ true → (is_default_part p ≡ true → r ≡ role.Default) → ((f : Form) → p ≡ part.Name f → is_name r ≡ false) → Way p r
way-by (part.Name f) r ok default name = name f refl
way-by part.Default r ok default name = default refl
way-by part.Item r ok default name = tt
way-by part.Member r ok default name = tt
way-by _ r ok default name = absurd (true-false ok refl)

pub next-way : (p : Part) (r : Role) (stays value : Bool) (k : Kind) (sourced : Bool) (i : ℕ) (q : Sought) → Way p r → sought_by p stays value k i ≡ Some q → ((f : Form) → q.part ≡ part.Name f → is_name (role_by r k sourced i) ≡ false)
    → Way q.part (role_by r k sourced i)
next-way (part.Name f) r stays value k sourced i q way h name =
    let next = name-next f stays k i q h in
    way-by q.part (role_by r k sourced i) (ap is_way (sym next) ∙ name-way f k) (λ d. absurd (true-false (ap seeks_default next ∙ d) (name-default f k))) name
next-way part.Default r stays value k sourced i q way h name =
    let next = default-next stays value k i q h in
    way-by q.part (role_by r k sourced i) (ap is_way (sym next) ∙ default-way k) (λ d. absurd (true-false (ap seeks_default next ∙ d) (default-default k))) name
next-way part.Item r stays value k sourced i q way h name =
    let next = item-next stays value k i q h in
    way-by q.part (role_by r k sourced i) (ap is_way (sym next) ∙ item-way k) (λ d. item-default r k sourced i (ap seeks_default next ∙ d)) name
next-way part.Member r stays value k sourced i q way h name =
    let next = member-next stays k i q h in
    way-by q.part (role_by r k sourced i) (ap is_way (sym next) ∙ member-way k) (λ d. absurd (true-false (ap seeks_default next ∙ d) (member-default k))) name
next-way _ r stays value k sourced i q way h name = absurd way
