-- Declarations that merge: those of one variable.
use Rattle.std.specs.Prelude.{◌≡◌, Bool, true, false}
use Rattle.std.specs.List.{All}
use Rattle.ecma_kind.specs.declared.kind.Kind.{Kind}
use Rattle.ecma_kind.specs.declared.kind.Kind.TheVariants as kind
use Rattle.ecma_scope.specs.Conflicts.{may_merge}
use Rattle.ecma_hygiene_scopes.specs.DeclaredIds.{DeclaredId, scope_ids}
use Rattle.ecma_hygiene_scopes.specs.Stops.{Stop}

-- an enum or a namespace, and all that its scope declares with its text, have one id. Where they have two, the texts of both may change apart: in
--   function f() { function E() { } enum E { } var E; }
-- the enum merges with the function, and meets the `var` where their texts are one and those of the functions are not
abbrev pub MergesAsOne : Stop → Type 0
MergesAsOne stop =
    All (λ (d : DeclaredId). may_merge d.form ≡ true → All (λ (e : DeclaredId). e.id.0 ≡ d.id.0 → e.id ≡ d.id) (scope_ids stop.around.role stop.node)) (scope_ids stop.around.role stop.node)

-- an enum, or a namespace: their names may merge with those before them, and no others
abbrev pub is_merging : Kind → Bool
is_merging (kind.TsEnumDecl declare is_const) = true
is_merging (kind.TsModuleDecl declare global) = true
is_merging (kind.TsNamespaceDecl declare global) = true
is_merging _ = false
