-- Trees in which what is no name of a variable has the empty context.
use Rattle.std.specs.Prelude.{◌≡◌, Bool, true, false, not, ◌&&◌, List}
use Rattle.std.specs.List.{All, list_all}
use Rattle.ecma_kind.specs.declared.kind.Kind.{Kind}
use Rattle.ecma_kind.specs.declared.kind.Kind.TheVariants as kind
use Rattle.ecma_tree.specs.declared.node.Node.{Node, Node-F, fold-Node, out-Node}
use Rattle.ecma_scope.specs.declared.role.Role.{Role}
use Rattle.ecma_scope.specs.declared.role.Role.TheVariants as role
use Rattle.ecma_scope.specs.Resolved.{is_name}
use Rattle.ecma_scope.specs.Scopes.{role_in}
use Rattle.ecma_hygiene_runs.specs.ExportsApart.{exports_apart}
use Rattle.ecma_hygiene_runs.specs.FinalTexts.{all_named, is_named, is_outer}
use Rattle.ecma_hygiene_runs.specs.KeyNames.{key_names_in}
use Rattle.ecma_hygiene_runs.specs.WrittenOut.{written_out}
use Rattle.ecma_tree.specs.Layers.{from_leaves}

abbrev pub outer_step : Node → List (Role → Bool) → Role → Bool
outer_step node children r = is_outer (is_name r) (out-Node node).kind && all_named (role_in r node) 0 children

abbrev pub has_outer_names_at : Node → Role → Bool
has_outer_names_at = from_leaves (Role → Bool) outer_step

-- what is no name of a variable has the empty context
abbrev pub has_outer_names : Node → Bool
has_outer_names tree = has_outer_names_at tree role.Root

-- an import that is exported: its name is a variable, and where it requires a module a key of `exports` too
--   export import a = require("m");   // sets `exports.a`
abbrev pub exports_import_by : Kind → Bool
exports_import_by (kind.TsImportEqualsDecl true false) = true
exports_import_by _ = false

abbrev pub no_exported_import_step : Node-F Bool → Bool
no_exported_import_step parts = not (exports_import_by parts.kind) && list_all (λ b. b) parts.children

abbrev pub has_no_exported_import : Node → Bool
has_no_exported_import = fold-Node Bool no_exported_import_step

-- a module has names in its patterns, and its keys beside shorthands and beside variables that it exports have the empty context
pub record NamesAreOuter (tree : Node) : Type 0 where
  pub named : is_named tree ≡ true
  pub keys : All (λ id. id.ctxt ≡ 0) (key_names_in (exports_apart (written_out tree)))
