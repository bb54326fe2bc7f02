-- What a module with its assignments lowered imports and exports: what it did before.
use Rattle.std.specs.Prelude.{◌≡◌, ℕ, List, None}
use Rattle.ecma_kind.specs.declared.shapes.Sort.TheVariants as sort
use Rattle.ecma_tree.specs.Sorted.{HasSort}
use Rattle.ecma_tree.specs.declared.node.Node.{Node}
use Rattle.ecma_config.specs.declared.config.TsImportExportAssignConfig.{TsImportExportAssignConfig}
use Rattle.ecma_forms.specs.Forms.{first_untaken}
use Rattle.ecma_interface.specs.Names.{Id}
use Rattle.ecma_interface.specs.Reading.{interface_of}
use Rattle.ecma_lower.specs.Checking.{first_refusal}
use Rattle.ecma_lower.specs.Lowered.{with_assignments_lowered}

-- an exported alias is an exported constant; an exported `require` and `export =` export nothing, before and after
abbrev pub LoweredTreesHaveTheirInterface : Type 0
LoweredTreesHaveTheirInterface =
    (assign : TsImportExportAssignConfig) (free : ℕ) (text : Id → List ℕ) (tree : Node) → HasSort sort.Module tree → first_untaken assign tree ≡ None → first_refusal assign tree ≡ None
    → interface_of text (with_assignments_lowered assign free tree) ≡ interface_of text tree
