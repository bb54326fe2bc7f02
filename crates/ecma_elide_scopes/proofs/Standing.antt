-- What a node is to its parent: never the root, and the body of a function only inside the scope of that function.
use Rattle.std.proofs.Common.{◌≡◌, ◌==◌, ℕ, zero, suc, Bool, true, false, ◌&&◌, ◌||◌, not, cond, refl, ap}
use Rattle.std.proofs.Math.Dec.{eqb-suc-zero}
use Rattle.ecma_kind.specs.declared.kind.Kind.{Kind}
use Rattle.ecma_kind.specs.declared.kind.Kind.TheVariants as kind
use Rattle.ecma_scope.specs.declared.role.Role.{Role}
use Rattle.ecma_scope.specs.declared.role.Role.TheVariants as role
use Rattle.ecma_scope.specs.Scopes.{at_child, covers, is_ambient, is_root, of_exports, of_specifier, opens_by, passes_ambient, passes_in_list, role_by}

abbrev pub is_function_body : Role → Bool
is_function_body role.Body = true
is_function_body _ = false

-- a test that fails for what most children are
module _ (test : Role → Bool) (plain : test role.Plain ≡ false) (name : test role.Name ≡ false) (sourced : test role.Sourced ≡ false) (ambient : test role.Ambient ≡ false) where
  pub at_fails : (r : Role) (wanted i : ℕ) → test r ≡ false → test (at_child r wanted i) ≡ false
  at_fails r wanted i h = by (i == wanted)
    where
      by : (b : Bool) → test (cond b r role.Plain) ≡ false
      by true = h
      by false = plain

  pub ambient_fails : (b : Bool) → test (passes_ambient b) ≡ false
  ambient_fails true = ambient
  ambient_fails false = plain

  pub list_fails : (r : Role) → test (passes_in_list r) ≡ false
  list_fails role.Sourced = sourced
  list_fails role.Ambient = ambient
  list_fails _ = plain

  pub specifier_fails : (r : Role) (i : ℕ) → test (of_specifier r i) ≡ false
  specifier_fails role.Sourced i = name
  specifier_fails _ i = at_fails role.Name 1 i name

  pub exports_fail : (b : Bool) (i : ℕ) → test (of_exports b i) ≡ false
  exports_fail true i = at_fails role.Sourced 0 i sourced
  exports_fail false i = plain

pub never_root : (r : Role) (k : Kind) (sourced : Bool) (i : ℕ) → is_root (role_by r k sourced i) ≡ false
unfolding role_by
never_root r kind.List sourced i = list_fails is_root refl refl refl refl r
never_root r kind.LabeledStmt sourced i = at_fails is_root refl refl refl refl role.Name 0 i refl
never_root r (kind.ImportNamedSpecifier is_type_only) sourced i = at_fails is_root refl refl refl refl role.Name 1 i refl
never_root r (kind.ExportNamedSpecifier is_type_only) sourced i = specifier_fails is_root refl refl refl refl r i
never_root r (kind.NamedExport type_only) sourced i = exports_fail is_root refl refl refl refl sourced i
never_root r (kind.Function is_generator is_async) sourced i = at_fails is_root refl refl refl refl role.Body 1 i refl
never_root r (kind.ArrowExpr is_async is_generator) sourced i = at_fails is_root refl refl refl refl role.Body 1 i refl
never_root r (kind.Constructor accessibility is_optional) sourced i = at_fails is_root refl refl refl refl role.Body 2 i refl
never_root r kind.GetterProp sourced i = at_fails is_root refl refl refl refl role.Body 2 i refl
never_root r kind.SetterProp sourced i = at_fails is_root refl refl refl refl role.Body 3 i refl
never_root r kind.CatchClause sourced i = at_fails is_root refl refl refl refl role.CatchBody 1 i refl
never_root r kind.ExportDecl sourced i = ambient_fails is_root refl refl refl refl (is_ambient r)
never_root r (kind.TsModuleDecl declare global) sourced i = ambient_fails is_root refl refl refl refl (declare || is_ambient r)
never_root r (kind.TsNamespaceDecl declare global) sourced i = ambient_fails is_root refl refl refl refl (declare || is_ambient r)
never_root r kind.TsModuleBlock sourced i = ambient_fails is_root refl refl refl refl (is_ambient r)
never_root r _ sourced i = refl

differ : {X : Type 0} (b : Bool) → b ≡ true → b ≡ false → X
differ true h g = cc
differ false h g = cc

abbrev Inside : Role → Kind → Bool → ℕ → Type 0
Inside r k named i = (opens_by r k named && covers r k i) ≡ true

pub body_inside : (r : Role) (k : Kind) (sourced named : Bool) (i : ℕ) → is_function_body (role_by r k sourced i) ≡ true → Inside r k named i
unfolding role_by opens_by covers
body_inside r kind.List sourced named i h = differ (is_function_body (passes_in_list r)) h (list_fails is_function_body refl refl refl refl r)
body_inside r kind.LabeledStmt sourced named i h = differ (is_function_body (at_child role.Name 0 i)) h (at_fails is_function_body refl refl refl refl role.Name 0 i refl)
body_inside r kind.BreakStmt sourced named i h = differ false h refl
body_inside r kind.ContinueStmt sourced named i h = differ false h refl
body_inside r (kind.ImportNamedSpecifier is_type_only) sourced named i h = differ (is_function_body (at_child role.Name 1 i)) h (at_fails is_function_body refl refl refl refl role.Name 1 i refl)
body_inside r (kind.ExportNamedSpecifier is_type_only) sourced named i h = differ (is_function_body (of_specifier r i)) h (specifier_fails is_function_body refl refl refl refl r i)
body_inside r kind.ExportNamespaceSpecifier sourced named i h = differ false h refl
body_inside r kind.ExportDefaultSpecifier sourced named i h = differ false h refl
body_inside r (kind.NamedExport type_only) sourced named i h = differ (is_function_body (of_exports sourced i)) h (exports_fail is_function_body refl refl refl refl sourced i)
body_inside r (kind.Function is_generator is_async) sourced named i h = refl
body_inside r (kind.ArrowExpr is_async is_generator) sourced named i h = refl
body_inside r (kind.Constructor accessibility is_optional) sourced named i h = refl
body_inside r kind.GetterProp sourced named zero h = differ false h refl
body_inside r kind.GetterProp sourced named (suc i) h = ap not (eqb-suc-zero i)
body_inside r kind.SetterProp sourced named zero h = differ false h refl
body_inside r kind.SetterProp sourced named (suc i) h = ap not (eqb-suc-zero i)
body_inside r kind.StaticBlock sourced named i h = differ false h refl
body_inside r kind.CatchClause sourced named i h = differ (is_function_body (at_child role.CatchBody 1 i)) h (at_fails is_function_body refl refl refl refl role.CatchBody 1 i refl)
body_inside r kind.ExportDefaultDecl sourced named i h = differ false h refl
body_inside r kind.ExportDecl sourced named i h = differ (is_function_body (passes_ambient (is_ambient r))) h (ambient_fails is_function_body refl refl refl refl (is_ambient r))
body_inside r (kind.TsModuleDecl declare global) sourced named i h = differ (is_function_body (passes_ambient (declare || is_ambient r))) h (ambient_fails is_function_body refl refl refl refl (declare || is_ambient r))
body_inside r (kind.TsNamespaceDecl declare global) sourced named i h = differ (is_function_body (passes_ambient (declare || is_ambient r))) h (ambient_fails is_function_body refl refl refl refl (declare || is_ambient r))
body_inside r kind.TsModuleBlock sourced named i h = differ (is_function_body (passes_ambient (is_ambient r))) h (ambient_fails is_function_body refl refl refl refl (is_ambient r))
body_inside r _ sourced named i h = differ false h refl
