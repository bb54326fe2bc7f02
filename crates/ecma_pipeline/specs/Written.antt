-- What is written for a tree that is ready.
use Rattle.std.specs.Prelude.{◌≡◌, ℕ, Bool, []}
use Rattle.ecma_tree.specs.declared.node.Node.{Node}
use Rattle.ecma_plain.specs.Texts.{IsPlainModule}
use Rattle.ecma_print.specs.Layout.{layout}
use Rattle.ecma_scope.specs.Conflicts.{redeclared}
use Rattle.ecma_scope.specs.Resolved.{resolved, AreGiven}
use Rattle.ecma_sources.specs.Sources.{IsReading}
use Rattle.ecma_round_trip_literals.specs.Sources.{with_sources}
use Rattle.ecma_config.specs.declared.config.Config.{Config}
use Rattle.ecma_runs.specs.declared.script.Script.{Script}
use Rattle.ecma_runs.specs.Observation.{observe}

-- the text that is written is a plain module, of the tree that was written with the source texts that are written for its literals, declares no name again where
-- it may not be, and does what the tree does, with whatever contexts it is resolved
pub record DoesWhatItsTreeDoes (assignments : Bool) (tree final : Node) : Type 0 where
  pub written : Node
  pub plain : IsPlainModule assignments (layout final) written
  pub again : IsReading (with_sources final) written
  pub distinct : redeclared written ≡ []
  pub runs : (unresolved top left : ℕ) → AreGiven unresolved top left written
      → (turns : ℕ) (options : Config) (script : Script) → observe turns options (resolved unresolved top left written) script ≡ observe turns options tree script
