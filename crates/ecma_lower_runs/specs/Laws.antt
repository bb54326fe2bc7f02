-- What a module with its assignments lowered does when it runs.
use Rattle.std.specs.Prelude.{◌≡◌, ℕ, true, not, ◌==◌, None}
use Rattle.std.specs.List.{list_all}
use Rattle.ecma_kind.specs.declared.shapes.Sort.TheVariants as sort
use Rattle.ecma_tree.specs.Sorted.{HasSort}
use Rattle.ecma_tree.specs.declared.node.Node.{Node}
use Rattle.ecma_config.specs.declared.config.Config.{Config}
use Rattle.ecma_config.specs.declared.config.TsImportExportAssignConfig.{TsImportExportAssignConfig}
use Rattle.ecma_forms.specs.Forms.{first_untaken}
use Rattle.ecma_lower.specs.Checking.{first_refusal}
use Rattle.ecma_lower.specs.Lowered.{with_assignments_lowered}
use Rattle.ecma_runs.specs.declared.script.Script.{Script}
use Rattle.ecma_runs.specs.Enums.{bare, lacks_enums}
use Rattle.ecma_runs.specs.Evaluation.{meaning}
use Rattle.ecma_runs.specs.Observation.{observe}
use Rattle.ecma_runs.specs.State.{Id}

-- no id that a tree declares has this context
abbrev pub DeclaresNone : ℕ → Node → Type 0
DeclaresNone free tree = list_all (λ (id : Id). not (id.ctxt == free)) (meaning tree).declared ≡ true

-- a module in which no enum stays is observed to do with its assignments lowered what it does, where it declares no name in the context of free names: `require`, `exports` and `module`
-- are free then
--   import a = require("m"); export = a.b;   // const a = require("m"); module.exports = a.b;
abbrev pub LoweredTreesRunAlike : Type 0
LoweredTreesRunAlike =
    (assign : TsImportExportAssignConfig) (free : ℕ) (tree : Node) → HasSort sort.Module tree → first_untaken assign tree ≡ None → first_refusal assign tree ≡ None → DeclaresNone free tree
    → lacks_enums (bare tree) ≡ true → lacks_enums (bare (with_assignments_lowered assign free tree)) ≡ true
    → (turns : ℕ) (options : Config) (script : Script) → observe turns options (with_assignments_lowered assign free tree) script ≡ observe turns options tree script

-- and it declares what it did
--   import a = require("m"); export = class B { };   // a and B: const a = require("m"); module.exports = class B { };
abbrev pub LoweredTreesDeclareAlike : Type 0
LoweredTreesDeclareAlike =
    (assign : TsImportExportAssignConfig) (free : ℕ) (tree : Node) → HasSort sort.Module tree → (meaning (with_assignments_lowered assign free tree)).declared ≡ (meaning tree).declared
