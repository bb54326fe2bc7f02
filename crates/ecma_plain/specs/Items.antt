-- The items of plain modules, and what stands before them: of the assignments of CommonJS modules (TypeScript handbook, "Modules Reference") only `import a = require("m")` and `export =`.
use Rattle.std.specs.Prelude.{Bool, true, false, ◌&&◌, Some}
use Rattle.std.specs.List.{list_all}
use Rattle.std.specs.Str.{IsUtf8}
use Rattle.ecma_kind.specs.declared.kind.Kind.{Kind}
use Rattle.ecma_kind.specs.declared.kind.Kind.TheVariants as kind
use Rattle.ecma_tree.specs.declared.node.Node.{Node}
use Rattle.ecma_rules.specs.Children.{child_is, items_at, kind_of}

abbrev pub is_external : Kind → Bool
is_external kind.TsExternalModuleRef = true
is_external _ = false

-- an item of this kind, where assignments may stand or not
abbrev pub is_plain_kind : Bool → Kind → Node → Bool
is_plain_kind assignments (kind.TsImportEqualsDecl is_export is_type_only) item = assignments && child_is is_external item 1
is_plain_kind assignments kind.TsExportAssignment item = assignments
is_plain_kind assignments _ item = true

abbrev pub is_plain_item : Bool → Node → Bool
is_plain_item assignments item = is_plain_kind assignments (kind_of item) item

abbrev pub has_plain_items : Bool → Node → Bool
has_plain_items assignments tree = list_all (is_plain_item assignments) (items_at tree 0)

-- what stands behind `#!` is UTF-8
abbrev pub HasUtf8Hashbang : Kind → Type 0
HasUtf8Hashbang (kind.Module (Some text)) = IsUtf8 text
HasUtf8Hashbang _ = Unit {0}
