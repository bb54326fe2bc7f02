-- No role becomes ambient where no namespace is on the way, and what stands in no default export has no role of one.
use Rattle.std.proofs.Common.{◌≡◌, ℕ, ◌==◌, Bool, true, false, cond, refl, if◌then◌else◌}
use Rattle.ecma_kind.specs.declared.kind.Kind.{Kind}
use Rattle.ecma_kind.specs.declared.kind.Kind.TheVariants as kind
use Rattle.ecma_scope.specs.declared.role.Role.{Role}
use Rattle.ecma_scope.specs.declared.role.Role.TheVariants as role
use Rattle.ecma_scope.specs.Scopes.{at_child, is_ambient, is_default, of_exports, of_specifier, passes_ambient, passes_in_list, role_by}
use Rattle.ecma_hygiene.proofs.Telling.{true-false}
use Rattle.ecma_sources.specs.TypesAlone.{is_lowered}

-- ---- ambient

calm-list : (r : Role) → is_ambient r ≡ false → is_ambient (passes_in_list r) ≡ false
calm-list role.Ambient h = absurd (true-false refl h)
calm-list role.Sourced h = refl
calm-list _ h = refl

calm-child : (r : Role) (wanted i : ℕ) → is_ambient r ≡ false → is_ambient (at_child r wanted i) ≡ false
calm-child r wanted i h = elim (i == wanted) as (λ b. is_ambient (cond b r role.Plain) ≡ false) [ true ↦ h | false ↦ refl ]

calm-specifier : (r : Role) (i : ℕ) → is_ambient (of_specifier r i) ≡ false
calm-specifier role.Sourced i = refl
calm-specifier _ i = calm-child role.Name 1 i refl

calm-exports : (sourced : Bool) (i : ℕ) → is_ambient (of_exports sourced i) ≡ false
calm-exports true i = calm-child role.Sourced 0 i refl
calm-exports false i = refl

calm-passes : (b : Bool) → b ≡ false → is_ambient (passes_ambient b) ≡ false
calm-passes true h = absurd (true-false refl h)
calm-passes false h = refl

pub calm-role : (r : Role) (k : Kind) (sourced : Bool) (i : ℕ) → is_ambient r ≡ false → is_lowered k ≡ false → is_ambient (role_by r k sourced i) ≡ false
unfolding role_by
calm-role r kind.List sourced i calm h = calm-list r calm
calm-role r kind.LabeledStmt sourced i calm h = calm-child role.Name 0 i refl
calm-role r (kind.ImportNamedSpecifier t) sourced i calm h = calm-child role.Name 1 i refl
calm-role r (kind.ExportNamedSpecifier t) sourced i calm h = calm-specifier r i
calm-role r (kind.NamedExport t) sourced i calm h = calm-exports sourced i
calm-role r (kind.Function g a) sourced i calm h = calm-child role.Body 1 i refl
calm-role r (kind.ArrowExpr a g) sourced i calm h = calm-child role.Body 1 i refl
calm-role r (kind.Constructor a o) sourced i calm h = calm-child role.Body 2 i refl
calm-role r kind.GetterProp sourced i calm h = calm-child role.Body 2 i refl
calm-role r kind.SetterProp sourced i calm h = calm-child role.Body 3 i refl
calm-role r kind.CatchClause sourced i calm h = calm-child role.CatchBody 1 i refl
calm-role r kind.ExportDecl sourced i calm h = calm-passes (is_ambient r) calm
calm-role r (kind.TsModuleDecl declare g) sourced i calm h = absurd (true-false refl h)
calm-role r (kind.TsNamespaceDecl declare g) sourced i calm h = absurd (true-false refl h)
calm-role r kind.TsModuleBlock sourced i calm h = calm-passes (is_ambient r) calm
calm-role r _ sourced i calm h = refl

-- ---- exported as the default

abbrev pub is_default_export : Kind → Bool
is_default_export kind.ExportDefaultDecl = true
is_default_export _ = false

child-plain : (r : Role) (wanted i : ℕ) → is_default r ≡ false → is_default (at_child r wanted i) ≡ false
child-plain r wanted i h = by (i == wanted)
  where
    by : (b : Bool) → is_default (if b then r else role.Plain) ≡ false
    by true = h
    by false = refl

list-plain : (r : Role) → is_default (passes_in_list r) ≡ false
list-plain role.Sourced = refl
list-plain role.Ambient = refl
list-plain _ = refl

specifier-plain : (r : Role) (i : ℕ) → is_default (of_specifier r i) ≡ false
specifier-plain role.Sourced i = refl
specifier-plain _ i = child-plain role.Name 1 i refl

exports-plain : (sourced : Bool) (i : ℕ) → is_default (of_exports sourced i) ≡ false
exports-plain true i = child-plain role.Sourced 0 i refl
exports-plain false i = refl

ambient-plain : (b : Bool) → is_default (passes_ambient b) ≡ false
ambient-plain true = refl
ambient-plain false = refl

pub default-role : (r : Role) (k : Kind) (sourced : Bool) (i : ℕ) → is_default_export k ≡ false → is_default (role_by r k sourced i) ≡ false
unfolding role_by
default-role r kind.List sourced i h = list-plain r
default-role r kind.LabeledStmt sourced i h = child-plain role.Name 0 i refl
default-role r (kind.ImportNamedSpecifier t) sourced i h = child-plain role.Name 1 i refl
default-role r (kind.ExportNamedSpecifier t) sourced i h = specifier-plain r i
default-role r (kind.NamedExport t) sourced i h = exports-plain sourced i
default-role r (kind.Function g a) sourced i h = child-plain role.Body 1 i refl
default-role r (kind.ArrowExpr a g) sourced i h = child-plain role.Body 1 i refl
default-role r (kind.Constructor a o) sourced i h = child-plain role.Body 2 i refl
default-role r kind.GetterProp sourced i h = child-plain role.Body 2 i refl
default-role r kind.SetterProp sourced i h = child-plain role.Body 3 i refl
default-role r kind.CatchClause sourced i h = child-plain role.CatchBody 1 i refl
default-role r kind.ExportDefaultDecl sourced i h = absurd (true-false refl h)
default-role r kind.ExportDecl sourced i h = ambient-plain (is_ambient r)
default-role r (kind.TsModuleDecl d g) sourced i h = ambient-plain _
default-role r (kind.TsNamespaceDecl d g) sourced i h = ambient-plain _
default-role r kind.TsModuleBlock sourced i h = ambient-plain (is_ambient r)
default-role r _ sourced i h = refl
