-- A module without its types does what it does with them, and from a sorted one only types go.
use Rattle.std.specs.Prelude.{◌≡◌, ℕ, true}
use Rattle.ecma_tree.specs.declared.node.Node.{Node}
use Rattle.ecma_tree.specs.Sorted.{HasSort}
use Rattle.ecma_strip.specs.Stripping.{stripped}
use Rattle.ecma_config.specs.declared.config.Config.{Config}
use Rattle.ecma_runs.specs.declared.script.Script.{Script}
use Rattle.ecma_runs.specs.Enums.{bare, lacks_enums}
use Rattle.ecma_runs.specs.Observation.{observe}
use Rattle.ecma_kind.specs.declared.shapes.Sort.TheVariants as sort
use Rattle.ecma_strip_runs.specs.OnlyTypes.{only_types_go}
use Rattle.ecma_strip_runs.specs.UsualBodies.{has_usual_bodies, has_no_arrow_receivers}

-- of a tree from which only types go, and in which no enum stays
abbrev pub StrippingKeepsRuns : Type 0
StrippingKeepsRuns =
    (turns : ℕ) (options : Config) (m : Node) (script : Script) → only_types_go m ≡ true → lacks_enums (bare m) ≡ true → lacks_enums (stripped m) ≡ true
    → observe turns options (stripped m) script ≡ observe turns options m script

-- so it is of a sorted module whose bodies are usual, and in which no arrow function has a parameter `this`
abbrev pub OnlyTypesGo : Type 0
OnlyTypesGo = (m : Node) → HasSort sort.Module m → has_usual_bodies m ≡ true → has_no_arrow_receivers m ≡ true → only_types_go m ≡ true
