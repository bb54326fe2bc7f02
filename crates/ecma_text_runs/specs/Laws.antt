-- A module that is read does what it does without its types.
use Rattle.std.specs.Prelude.{◌≡◌, ℕ, true, List, Ok}
use Rattle.ecma_tree.specs.declared.node.Node.{Node}
use Rattle.ecma_grammar.specs.declared.production.Mode.{Mode}
use Rattle.ecma_modules.specs.Modules.{reads_as}
use Rattle.ecma_strip.specs.Stripping.{stripped}
use Rattle.ecma_strip_runs.specs.UsualBodies.{has_usual_bodies}
use Rattle.ecma_config.specs.declared.config.Config.{Config}
use Rattle.ecma_runs.specs.declared.script.Script.{Script}
use Rattle.ecma_runs.specs.Enums.{bare, lacks_enums}
use Rattle.ecma_runs.specs.Observation.{observe}

-- what keeps the context rules has no declaration as the body of a statement
abbrev pub ReadModulesHaveUsualBodies : Type 0
ReadModulesHaveUsualBodies = (text : List ℕ) (mode : Mode) (bound : ℕ) (tree : Node) → reads_as text mode bound ≡ Ok tree → has_usual_bodies tree ≡ true

-- for every script of the host and every number of turns, where no enum stays
abbrev pub ReadModulesRunStripped : Type 0
ReadModulesRunStripped =
    (text : List ℕ) (mode : Mode) (bound : ℕ) (tree : Node) → reads_as text mode bound ≡ Ok tree → lacks_enums (bare tree) ≡ true → lacks_enums (stripped tree) ≡ true →
    (turns : ℕ) (options : Config) (script : Script) → observe turns options (stripped tree) script ≡ observe turns options tree script
