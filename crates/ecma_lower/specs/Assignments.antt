-- The assignments among the items of a module: `import a = require("m")` and `export = e` (TypeScript handbook, "Modules - Reference").
use Rattle.std.specs.Prelude.{Bool, true, false, List, ◌∷◌}
use Rattle.ecma_kind.specs.declared.kind.Kind.{Kind}
use Rattle.ecma_kind.specs.declared.kind.Kind.TheVariants as kind
use Rattle.ecma_tree.specs.declared.node.Node.{Node, out-Node}
use Rattle.ecma_lower.specs.declared.assignment.Assignment.{Assignment}
use Rattle.ecma_lower.specs.declared.assignment.Assignment.TheVariants as assignment

abbrev pub is_required : Kind → Bool
is_required kind.TsExternalModuleRef = true
is_required _ = false

-- of the children of an import: its right side is `require("m")`
abbrev pub requires_by : List Node → Bool
requires_by (name ∷ value ∷ others) = is_required (out-Node value).kind
requires_by _ = false

abbrev pub is_import_by : Kind → List Node → Bool
is_import_by (kind.TsImportEqualsDecl is_export false) children = requires_by children
is_import_by _ children = false

-- a required module that is no type
--   import a = require("m"); export import b = require("n");   // both
--   import a = b.c; import type d = require("o");   // neither
abbrev pub is_required_import : Node → Bool
is_required_import item = is_import_by (out-Node item).kind (out-Node item).children

abbrev pub is_export_by : Kind → Bool
is_export_by kind.TsExportAssignment = true
is_export_by _ = false

--   export = e;
abbrev pub is_export_assignment : Node → Bool
is_export_assignment item = is_export_by (out-Node item).kind

abbrev pub is_assignment : Assignment → Node → Bool
is_assignment assignment.Import = is_required_import
is_assignment assignment.Export = is_export_assignment
