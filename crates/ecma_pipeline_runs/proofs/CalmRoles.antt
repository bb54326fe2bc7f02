-- No role becomes ambient where no namespace is on the way.
use Rattle.std.proofs.Common.{◌≡◌, ℕ, ◌==◌, Bool, true, false, cond, refl}
use Rattle.ecma_kind.specs.declared.kind.Kind.{Kind}
use Rattle.ecma_kind.specs.declared.kind.Kind.TheVariants as kind
use Rattle.ecma_scope.specs.declared.role.Role.{Role}
use Rattle.ecma_scope.specs.declared.role.Role.TheVariants as role
use Rattle.ecma_scope.specs.Scopes.{at_child, is_ambient, of_exports, of_specifier, passes_ambient, passes_in_list, role_by}
use Rattle.ecma_hygiene.proofs.Telling.{true-false}
use Rattle.ecma_sources.specs.TypesAlone.{is_lowered}

calm-list : (r : Role) → is_ambient r ≡ false → is_ambient (passes_in_list r) ≡ false
calm-list role.Ambient h = absurd (true-false refl h)
calm-list role.Sourced h = refl
calm-list _ h = refl

calm-child : (r : Role) (wanted i : ℕ) → is_ambient r ≡ false → is_ambient (at_child r wanted i) ≡ false
calm-child r wanted i h = elim (i == wanted) as (λ b. is_ambient (cond b r role.Plain) ≡ false) [ true ↦ h | false ↦ refl ]

calm-specifier : (r : Role) (i : ℕ) → is_ambient (of_specifier r i) ≡ false
calm-specifier role.Sourced i = refl
calm-specifier _ i = calm-child role.Name 1 i refl

calm-exports : (sourced : Bool) (i : ℕ) → is_ambient (of_exports sourced i) ≡ false
calm-exports true i = calm-child role.Sourced 0 i refl
calm-exports false i = refl

calm-passes : (b : Bool) → b ≡ false → is_ambient (passes_ambient b) ≡ false
calm-passes true h = absurd (true-false refl h)
calm-passes false h = refl

pub calm-role : (r : Role) (k : Kind) (sourced : Bool) (i : ℕ) → is_ambient r ≡ false → is_lowered k ≡ false → is_ambient (role_by r k sourced i) ≡ false
unfolding role_by
calm-role r kind.List sourced i calm h = calm-list r calm
calm-role r kind.LabeledStmt sourced i calm h = calm-child role.Name 0 i refl
calm-role r (kind.ImportNamedSpecifier t) sourced i calm h = calm-child role.Name 1 i refl
calm-role r (kind.ExportNamedSpecifier t) sourced i calm h = calm-specifier r i
calm-role r (kind.NamedExport t) sourced i calm h = calm-exports sourced i
calm-role r (kind.Function g a) sourced i calm h = calm-child role.Body 1 i refl
calm-role r (kind.ArrowExpr a g) sourced i calm h = calm-child role.Body 1 i refl
calm-role r (kind.Constructor a o) sourced i calm h = calm-child role.Body 2 i refl
calm-role r kind.GetterProp sourced i calm h = calm-child role.Body 2 i refl
calm-role r kind.SetterProp sourced i calm h = calm-child role.Body 3 i refl
calm-role r kind.CatchClause sourced i calm h = calm-child role.CatchBody 1 i refl
calm-role r kind.ExportDecl sourced i calm h = calm-passes (is_ambient r) calm
calm-role r (kind.TsModuleDecl declare g) sourced i calm h = absurd (true-false refl h)
calm-role r (kind.TsNamespaceDecl declare g) sourced i calm h = absurd (true-false refl h)
calm-role r kind.TsModuleBlock sourced i calm h = calm-passes (is_ambient r) calm
calm-role r _ sourced i calm h = refl
