-- The forms of imports and exports that are assignments, and what an import by `=` imports.
use Rattle.std.specs.Prelude.{Bool, true, false, not, ◌&&◌, ◌||◌}
use Rattle.ecma_kind.specs.declared.kind.Kind.{Kind}
use Rattle.ecma_kind.specs.declared.kind.Kind.TheVariants as kind
use Rattle.ecma_tree.specs.declared.node.Node.{Node}
use Rattle.ecma_rules.specs.Children.{child_is, kind_of}
use Rattle.ecma_plain.specs.Forms.{is_of_forms}
use Rattle.ecma_plain.specs.Items.{is_external}

-- the two assignment forms of imports and exports (TypeScript handbook, "Modules - Reference", `export =` and `import = require()`),
-- and the `require("m")` of the first
abbrev pub is_assignment_form : Kind → Bool
is_assignment_form (kind.TsImportEqualsDecl is_export is_type_only) = true
is_assignment_form kind.TsExternalModuleRef = true
is_assignment_form kind.TsExportAssignment = true
is_assignment_form _ = false

-- what is TypeScript and does not stand in a plain module: all of it, but for the assignment forms where these stay
--   let a: T; import type b from "m";   // stands in none
--   export = e;   // stands in one where assignment forms stay, and in no other
abbrev pub is_left_out : Bool → Kind → Bool
is_left_out keep_assign k = not (is_of_forms k) || (is_assignment_form k && not keep_assign)

-- an import by `=` of a name, which is none of an external module
--   import a = b; import a = b.c;   // each is one
--   import a = require("m");   // is none
abbrev pub is_inner_import_by : Kind → Node → Bool
is_inner_import_by (kind.TsImportEqualsDecl is_export is_type_only) node = not (child_is is_external node 1)
is_inner_import_by _ node = false

abbrev pub is_inner_import : Node → Bool
is_inner_import node = is_inner_import_by (kind_of node) node
