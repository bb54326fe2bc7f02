-- What is read as a module, with its assignments lowered.
use Rattle.std.specs.Prelude.{◌≡◌, ℕ, false, None}
use Rattle.ecma_kind.specs.declared.shapes.Sort.TheVariants as sort
use Rattle.ecma_tree.specs.Sorted.{HasSort}
use Rattle.ecma_tree.specs.declared.node.Node.{Node}
use Rattle.ecma_config.specs.declared.config.TsImportExportAssignConfig.{TsImportExportAssignConfig}
use Rattle.ecma_forms.specs.Forms.{first_unlowered, first_untaken}
use Rattle.ecma_hygiene_fits.specs.Placed.{NoneMade, NoneMadeBut}
use Rattle.ecma_hygiene_fits.specs.Spelled.{NoneLong}
use Rattle.ecma_lower.specs.Checking.{first_refusal}
use Rattle.ecma_lower.specs.Lowered.{with_assignments_lowered}
use Rattle.ecma_lower.specs.Names.{makes_require}
use Rattle.ecma_plain.specs.Read.{IsRead}
use Rattle.ecma_scope.specs.Laws.{without_contexts}
use Rattle.ecma_strip_fits.specs.Targets.{HasPlainTargets}

-- a tree as it is read is one with them, where each of its forms is taken
abbrev pub LoweredSourcesAreRead : Type 0
LoweredSourcesAreRead =
    (assign : TsImportExportAssignConfig) (tree : Node) → IsRead tree → first_untaken assign tree ≡ None → first_refusal assign tree ≡ None → IsRead (with_assignments_lowered assign 0 tree)

-- no other pass has to lower one of its forms then
abbrev pub LoweredSourcesNeedNoLowering : Type 0
LoweredSourcesNeedNoLowering =
    (assign : TsImportExportAssignConfig) (tree : Node) → HasSort sort.Module tree → first_untaken assign tree ≡ None → first_refusal assign tree ≡ None
    → first_unlowered (with_assignments_lowered assign 0 tree) ≡ None

-- the names that are made are short
abbrev pub LoweringKeepsNamesShort : Type 0
LoweringKeepsNamesShort = (assign : TsImportExportAssignConfig) (free : ℕ) (tree : Node) → HasSort sort.Module tree → NoneLong tree → NoneLong (with_assignments_lowered assign free tree)

-- no name is bound with a type round it that was not
abbrev pub LoweringKeepsPlainTargets : Type 0
LoweringKeepsPlainTargets =
    (assign : TsImportExportAssignConfig) (free : ℕ) (tree : Node) → HasSort sort.Module tree → HasPlainTargets tree → HasPlainTargets (with_assignments_lowered assign free tree)

-- what is made is free
abbrev pub LoweringMakesFreeNamesAlone : Type 0
LoweringMakesFreeNamesAlone =
    (assign : TsImportExportAssignConfig) (free : ℕ) (tree : Node) → HasSort sort.Module tree → NoneMade tree → NoneMadeBut free (with_assignments_lowered assign free tree)

-- contexts do not matter to it
abbrev pub ContextsDoNotMatterToLowering : Type 0
ContextsDoNotMatterToLowering =
    (assign : TsImportExportAssignConfig) (free : ℕ) (tree : Node) → without_contexts (with_assignments_lowered assign free tree) ≡ with_assignments_lowered assign 0 (without_contexts tree)

-- where each form is taken, no `require` is made: so `transform` does what the program does
abbrev pub TakenTreesMakeNoRequire : Type 0
TakenTreesMakeNoRequire = (assign : TsImportExportAssignConfig) (tree : Node) → HasSort sort.Module tree → first_untaken assign tree ≡ None → makes_require assign tree ≡ false
