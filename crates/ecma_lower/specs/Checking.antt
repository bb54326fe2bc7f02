-- What is not lowered, and which of it is told.
use Rattle.std.specs.Prelude.{ℕ, Bool, true, false, List, map, Option, Some, None, Result, Ok, Err, slice_get}
use Rattle.std.specs.List.{filter}
use Rattle.ecma_config.specs.declared.config.TsImportExportAssignConfig.{TsImportExportAssignConfig}
use Rattle.ecma_config.specs.declared.config.TsImportExportAssignConfig.TheVariants as way
use Rattle.ecma_tree.specs.declared.node.Node.{Node, out-Node}
use Rattle.ecma_lower.specs.declared.error.LowerError.{LowerError}
use Rattle.ecma_lower.specs.declared.error.LowerError.TheVariants as lower_error
use Rattle.ecma_lower.specs.Assignments.{is_export_assignment, is_required_import}
use Rattle.ecma_lower.specs.Items.{items_of}

-- a module of ECMAScript has no `require`
abbrev pub refuses_imports : TsImportExportAssignConfig → Bool
refuses_imports way.EsNext = true
refuses_imports _ = false

-- nor has it `module.exports`, also where `require` is made
abbrev pub refuses_exports : TsImportExportAssignConfig → Bool
refuses_exports way.NodeNext = true
refuses_exports way.EsNext = true
refuses_exports _ = false

-- where the items begin that pass a test
abbrev pub places_of : (Node → Bool) → List Node → List ℕ
places_of test items = map (λ item. (out-Node item).span.lo) (filter test items)

-- the refusal at a place, if there is one where it is asked
abbrev pub refusal_at : Bool → Option ℕ → (ℕ → LowerError) → Option LowerError → Option LowerError
refusal_at true (Some at) refusal others = Some (refusal at)
refusal_at _ _ refusal others = others

-- a second `export =`, an import of a required module, an `export =`: the first that holds
--   export = a; export = b;   // ExportAssignTwice at 12
--   import a = require("m"); export = a;   // under `NodeNext` ExportAssign at 25, under `EsNext` ImportAssign at 0
abbrev pub first_refusal : TsImportExportAssignConfig → Node → Option LowerError
first_refusal assign tree =
    let exports = places_of is_export_assignment (items_of tree) in
    let imports = places_of is_required_import (items_of tree) in
    refusal_at true (slice_get exports 1) lower_error.ExportAssignTwice
    (refusal_at (refuses_imports assign) (slice_get imports 0) lower_error.ImportAssign
    (refusal_at (refuses_exports assign) (slice_get exports 0) lower_error.ExportAssign None))

abbrev pub answer : Option LowerError → Result Unit LowerError
answer (Some refusal) = Err refusal
answer None = Ok tt
