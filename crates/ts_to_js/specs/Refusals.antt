-- Why a module is refused: as it is read, and as its tree is looked at.
use Rattle.std.specs.Prelude.{◌≡◌, ◌≤◌, ℕ, Bool, List, Option, Some, None, Ok, cond, nat_lt}
use Rattle.ecma_tree.specs.declared.node.Node.{Node}
use Rattle.ecma_config.specs.declared.config.Config.{Config}
use Rattle.ecma_modules.specs.declared.error.ReadError.{ReadError}
use Rattle.ecma_modules.specs.declared.error.ReadError.TheVariants as reading
use Rattle.ecma_modules.specs.Modules.{deepest, reads_as, typescript}
use Rattle.ecma_exports.specs.Exports.{first_captured, first_unbound}
use Rattle.ecma_exports.specs.declared.error.ExportError.{ExportError}
use Rattle.ecma_exports.specs.declared.error.ExportError.TheVariants as exports
use Rattle.ecma_scope.specs.declared.error.ScopeError.{ScopeError}
use Rattle.ecma_scope.specs.declared.error.ScopeError.TheVariants as scopes
use Rattle.ecma_scope.specs.Clashes.{first_redeclared}
use Rattle.ecma_scope.specs.Needs.{needed}
use Rattle.ecma_forms.specs.Forms.{first_untaken}
use Rattle.ecma_lower.specs.Checking.{first_refusal}
use Rattle.ecma_lower.specs.declared.error.LowerError.{LowerError}
use Rattle.ecma_lower.specs.declared.error.LowerError.TheVariants as lowering
use Rattle.ts_to_js.specs.Stages.{kept, ready_of}
use Rattle.ts_to_js.specs.declared.error.TsError.{TsError}
use Rattle.ts_to_js.specs.declared.error.TsError.TheVariants as error

-- a text that was not read
abbrev pub refusal_of : ReadError → TsError
refusal_of (reading.TooDeep at) = error.TooDeep at
refusal_of (reading.Syntax at) = error.Syntax at
refusal_of reading.NoMemory = error.NoMemory

abbrev pub refusal_of_scopes : ScopeError → TsError
refusal_of_scopes (scopes.Redeclared name) = error.Redeclared name
refusal_of_scopes scopes.NoMemory = error.NoMemory

abbrev pub refusal_of_exports : ExportError → TsError
refusal_of_exports (exports.Unbound name) = error.ExportUnbound name
refusal_of_exports (exports.Captured name) = error.Captured name
refusal_of_exports exports.NoMemory = error.NoMemory

abbrev pub refusal_of_lowering : LowerError → TsError
refusal_of_lowering (lowering.ExportAssignTwice at) = error.ExportAssignTwice at
refusal_of_lowering (lowering.ImportAssign at) = error.ImportAssign at
refusal_of_lowering (lowering.ExportAssign at) = error.ExportAssign at
refusal_of_lowering lowering.NoMemory = error.NoMemory

-- a form that is not taken yet, or too few contexts
abbrev pub refused_form : Option ℕ → Bool → Option TsError
refused_form (Some at) short = Some (error.Syntax at)
refused_form None short = cond short (Some error.Spent) None

-- a tree that was read, where so many contexts are left
abbrev pub refused_early : Config → ℕ → Node → Option TsError
refused_early config left tree = refused_form (first_untaken config.import_export_assign_config tree) (nat_lt left (needed tree))

-- a name that is declared again, a name that is exported and not declared, or one that is exported and captured, in this order; of each the first in the text is told
abbrev pub refused_name : Option (List ℕ) → Option (List ℕ) → Option (List ℕ) → Option TsError
refused_name (Some name) unbound captured = Some (error.Redeclared name)
refused_name None (Some name) captured = Some (error.ExportUnbound name)
refused_name None None (Some name) = Some (error.Captured name)
refused_name None None None = None

-- an assignment that is not lowered
abbrev pub refused_assignment : Option LowerError → Option TsError
refused_assignment None = None
refused_assignment (Some refusal) = Some (refusal_of_lowering refusal)

-- the former comes first
abbrev pub refused_by : Option TsError → Option TsError → Option TsError
refused_by (Some refusal) late = Some refusal
refused_by None late = late

-- of what the options leave of the tree
abbrev pub refused_late : Config → ℕ → Node → Option TsError
refused_late config left tree =
    refused_by (refused_assignment (first_refusal config.import_export_assign_config (kept config left tree)))
    (refused_name (first_redeclared (kept config left tree)) (first_unbound left (ready_of config left tree)) (first_captured left (ready_of config left tree)))

abbrev pub refused : Config → ℕ → Node → Option TsError
refused config left tree = refused_by (refused_early config left tree) (refused_late config left tree)

-- what is read of a text needs so many contexts at most
abbrev pub ReadingNeedsAtMost : List ℕ → ℕ → Type 0
ReadingNeedsAtMost text most = (tree : Node) → reads_as text typescript deepest ≡ Ok tree → needed tree ≤ most
