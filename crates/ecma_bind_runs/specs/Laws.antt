-- Names with types round them, bound where names are bound, do not matter to what is observed.
use Rattle.std.specs.Prelude.{◌≡◌, ℕ, true}
use Rattle.ecma_kind.specs.declared.shapes.Sort.TheVariants as sort
use Rattle.ecma_tree.specs.declared.node.Node.{Node}
use Rattle.ecma_tree.specs.Sorted.{HasSort}
use Rattle.ecma_config.specs.declared.config.Config.{Config}
use Rattle.ecma_runs.specs.declared.script.Script.{Script}
use Rattle.ecma_runs.specs.Enums.{bare, lacks_enums}
use Rattle.ecma_runs.specs.Observation.{observe}
use Rattle.ecma_bind.specs.Binding.{with_bound_names}

-- what is observed of a sorted module with bound names is what is observed of the module, where no enum stays
abbrev pub BoundNamesRunAlike : Type 0
BoundNamesRunAlike =
    (tree : Node) → HasSort sort.Module tree → lacks_enums (bare tree) ≡ true → lacks_enums (bare (with_bound_names tree)) ≡ true
    → (turns : ℕ) (options : Config) (script : Script) → observe turns options (with_bound_names tree) script ≡ observe turns options tree script
