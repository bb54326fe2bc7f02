-- Parentheses that keep what is written from being read as something else do not matter to what is observed.
use Rattle.std.specs.Prelude.{◌≡◌, ℕ, None}
use Rattle.ecma_kind.specs.declared.shapes.Sort.TheVariants as sort
use Rattle.ecma_tree.specs.declared.node.Node.{Node}
use Rattle.ecma_tree.specs.Sorted.{HasSort}
use Rattle.ecma_scope.specs.Resolved.{resolved}
use Rattle.ecma_config.specs.declared.config.Config.{Config}
use Rattle.ecma_config.specs.declared.config.TsImportExportAssignConfig.{TsImportExportAssignConfig}
use Rattle.ecma_forms.specs.Forms.{first_untaken}
use Rattle.ecma_runs.specs.declared.script.Script.{Script}
use Rattle.ecma_runs.specs.Observation.{observe}
use Rattle.ecma_enclose.specs.Enclosing.{enclosed}

-- a sorted module with them, resolved, is observed to do what the resolved module does, where each form of both is taken, and so no enum stays
abbrev pub EnclosedTreesRunAlike : Type 0
EnclosedTreesRunAlike =
    (assign : TsImportExportAssignConfig) (tree : Node) → HasSort sort.Module tree → (unresolved top left : ℕ)
    → first_untaken assign (resolved unresolved top left (enclosed tree)) ≡ None → first_untaken assign (resolved unresolved top left tree) ≡ None
    → (turns : ℕ) (options : Config) (script : Script)
    → observe turns options (resolved unresolved top left (enclosed tree)) script ≡ observe turns options (resolved unresolved top left tree) script
