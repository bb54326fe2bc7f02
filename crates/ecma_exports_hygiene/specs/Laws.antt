-- Which names keep their texts: those by which other modules know what a module exports.
use Rattle.std.specs.Prelude.{◌≡◌, ℕ, Bool, true, None, List, []}
use Rattle.ecma_kind.specs.declared.shapes.Sort.TheVariants as sort
use Rattle.ecma_tree.specs.declared.node.Node.{Node}
use Rattle.ecma_tree.specs.Sorted.{HasSort}
use Rattle.ecma_scope.specs.declared.role.Role.TheVariants as role
use Rattle.ecma_exports.specs.Exports.{exported_names, first_captured, is_among}
use Rattle.ecma_hygiene.specs.declared.naming.Named.{Named}
use Rattle.ecma_hygiene.specs.Ids.{Id, has_context}
use Rattle.ecma_hygiene.specs.Renamed.{text_of}
use Rattle.ecma_hygiene.specs.Sights.{own_scope}
use Rattle.ecma_hygiene.specs.Texts.{HygienicTexts, text_in}
use Rattle.ecma_hygiene_fits.specs.Placed.{NoneMadeBut}
use Rattle.ecma_hygiene_scopes.specs.Apart.{TellsScopesApart}
use Rattle.ecma_hygiene_runs.specs.Exports.{KeepsExportedTexts}
use Rattle.ecma_ready.specs.Ready.{HasOwnContexts, IsReady}
use Rattle.ecma_strip.specs.Stripping.{stripped}

-- where no exported name is captured, a binding of the scope of a module has its text without types, if that is the text of an exported declaration
abbrev pub BindingsThatAreNotCapturedKeepTheirTexts : Type 0
BindingsThatAreNotCapturedKeepTheirTexts =
    (free : ℕ) (tree : Node) (names : List Named) (id : Id) → HasSort sort.Module (stripped tree) → TellsScopesApart free 0 (stripped tree) → NoneMadeBut free (stripped tree) → first_captured free tree ≡ None
    → is_among (exported_names free tree) id.0 ≡ true → has_context id.1 (own_scope role.Root [] (stripped tree) id.0) ≡ true → HygienicTexts (stripped tree) names
    → text_of (text_in names) id ≡ id.0

-- so each exported declaration of a tree that is ready, in which each scope has contexts of its own, and of which no identifier was made but for free names,
-- keeps its text without its types
abbrev pub ExportsThatAreNotCapturedKeepTheirTexts : Type 0
ExportsThatAreNotCapturedKeepTheirTexts =
    (assignments : Bool) (free : ℕ) (tree : Node) (names : List Named) → IsReady assignments free tree → HasOwnContexts tree → NoneMadeBut free tree → first_captured free tree ≡ None → HygienicTexts (stripped tree) names
    → KeepsExportedTexts (text_of (text_in names)) (stripped tree)
