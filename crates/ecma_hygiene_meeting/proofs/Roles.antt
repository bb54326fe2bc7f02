-- Which children are neither the root nor a body.
use Rattle.std.proofs.Common.{◌≡◌, ℕ, ◌==◌, Bool, true, false, cond, ◌||◌, refl}
use Rattle.ecma_kind.specs.declared.kind.Kind.{Kind}
use Rattle.ecma_kind.specs.declared.kind.Kind.TheVariants as kind
use Rattle.ecma_scope.specs.declared.role.Role.{Role}
use Rattle.ecma_scope.specs.declared.role.Role.TheVariants as role
use Rattle.ecma_scope.specs.Declarations.{is_body}
use Rattle.ecma_scope.specs.Scopes.{at_child, is_root, of_exports, of_specifier, passes_ambient, passes_in_list, role_by}
use Rattle.ecma_hygiene.specs.Ids.{is_function_body}
use Rattle.ecma_hygiene.proofs.Telling.{true-false}

-- a kind that has the body of a function, or of a static block
abbrev pub has_body : Kind → Bool
has_body (kind.Function is_generator is_async) = true
has_body (kind.ArrowExpr is_async is_generator) = true
has_body (kind.Constructor accessibility is_optional) = true
has_body kind.GetterProp = true
has_body kind.SetterProp = true
has_body kind.StaticBlock = true
has_body _ = false

abbrev pub is_special : Role → Bool
is_special r = is_root r || is_body r

at-child : (r : Role) (wanted i : ℕ) → is_special r ≡ false → is_special (at_child r wanted i) ≡ false
at-child r wanted i h = elim (i == wanted) as (λ b. is_special (cond b r role.Plain) ≡ false) [ true ↦ h | false ↦ refl ]

ambient : (b : Bool) → is_special (passes_ambient b) ≡ false
ambient true = refl
ambient false = refl

in-list : (r : Role) → is_special (passes_in_list r) ≡ false
in-list role.Sourced = refl
in-list role.Ambient = refl
in-list _ = refl

specifier : (r : Role) (i : ℕ) → is_special (of_specifier r i) ≡ false
specifier role.Sourced i = refl
specifier _ i = at-child role.Name 1 i refl

exports : (b : Bool) (i : ℕ) → is_special (of_exports b i) ≡ false
exports true i = at-child role.Sourced 0 i refl
exports false i = refl

pub ordinary : (r : Role) (k : Kind) (there : Bool) (i : ℕ) → has_body k ≡ false → is_special (role_by r k there i) ≡ false
unfolding role_by
ordinary r kind.List there i h = in-list r
ordinary r kind.LabeledStmt there i h = at-child role.Name 0 i refl
ordinary r (kind.ImportNamedSpecifier t) there i h = at-child role.Name 1 i refl
ordinary r (kind.ExportNamedSpecifier t) there i h = specifier r i
ordinary r (kind.NamedExport t) there i h = exports there i
ordinary r (kind.Function g a) there i h = absurd (true-false refl h)
ordinary r (kind.ArrowExpr a g) there i h = absurd (true-false refl h)
ordinary r (kind.Constructor a o) there i h = absurd (true-false refl h)
ordinary r kind.GetterProp there i h = absurd (true-false refl h)
ordinary r kind.SetterProp there i h = absurd (true-false refl h)
ordinary r kind.StaticBlock there i h = absurd (true-false refl h)
ordinary r kind.CatchClause there i h = at-child role.CatchBody 1 i refl
ordinary r kind.ExportDecl there i h = ambient _
ordinary r (kind.TsModuleDecl d g) there i h = ambient _
ordinary r (kind.TsNamespaceDecl d g) there i h = ambient _
ordinary r kind.TsModuleBlock there i h = ambient _
ordinary r _ there i h = refl

pub body-not-root : (r : Role) → is_function_body r ≡ true → is_root r ≡ false
body-not-root role.Body h = refl
body-not-root role.Root h = absurd (true-false h refl)
body-not-root _ h = absurd (true-false h refl)

pub function-body : (r : Role) → is_function_body r ≡ true → is_body r ≡ true
function-body role.Body h = refl
function-body role.StaticBody h = refl
function-body _ h = absurd (true-false h refl)

pub no-body : (r : Role) → is_body r ≡ false → is_function_body r ≡ false
no-body role.Body h = absurd (true-false refl h)
no-body _ h = refl
