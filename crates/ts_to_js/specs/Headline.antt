-- What a converted module is to its source.
use Rattle.std.specs.Prelude.{◌≡◌, ◌⊎◌, ◌≤◌, ℕ, false, List, [], None, Ok, length}
use Rattle.std.specs.Str.{IsUtf8}
use Rattle.ecma_tree.specs.declared.node.Node.{Node}
use Rattle.ecma_tree.specs.Spans.{without_spans}
use Rattle.ecma_modules.specs.Modules.{reads_as, typescript, deepest}
use Rattle.ecma_plain.specs.Texts.{IsPlainModule}
use Rattle.ecma_scope.specs.Conflicts.{redeclared}
use Rattle.ecma_scope.specs.Laws.{without_contexts}
use Rattle.ecma_scope.specs.Resolved.{resolved, AreGiven}
use Rattle.ecma_print.specs.Explicit.{explicit}
use Rattle.ecma_interface.specs.Reading.{interface_of, own_text}
use Rattle.ecma_pipeline.specs.Ways.{final_text}
use Rattle.ecma_config.specs.declared.config.Config.{Config}
use Rattle.ecma_runs.specs.declared.script.Script.{Script}
use Rattle.ecma_runs.specs.declared.observation.Ending.TheVariants.{Outside}
use Rattle.ecma_runs.specs.Observation.{Observation, observe}
use Rattle.ts_to_js.specs.Conversion.{byte_limit}
use Rattle.ts_to_js.specs.Refusals.{refused}
use Rattle.ts_to_js.specs.Stages.{IsFinal, with_bindings}

-- bytes are a valid module, of this tree, by these options and where so many contexts are left
pub record IsValidModule (config : Config) (left : ℕ) (src : List ℕ) (tree : Node) : Type 0 where
  pub short : length src ≤ byte_limit
  pub utf8 : IsUtf8 src
  pub reads_as : reads_as src typescript deepest ≡ Ok tree
  pub taken : refused config left tree ≡ None

abbrev pub IsValid : Config → ℕ → List ℕ → Type 0
IsValid config left src = (tree : Node) × IsValidModule config left src tree

-- what is observed of the written module is what is observed of its source, unless that leaves the described language
abbrev pub KeepsRun : Observation → Observation → Type 0
KeepsRun source written = (source.ending ≡ Outside) ⊎ (written ≡ source)

-- the text is a conversion of the source, by these options
pub record IsConversion (config : Config) (left : ℕ) (src text : List ℕ) : Type 0 where
  pub source : Node
  pub valid : IsValidModule config left src source
  pub written : Node
  pub plain : IsPlainModule false text written
  -- the tree that is written for the source, up to spans, contexts and the parentheses of the layout
  pub final : Node
  pub is_final : IsFinal config left source final
  pub tree : without_spans written ≡ without_spans (explicit (without_contexts final))
  -- no name is declared again where it may not be
  pub distinct : redeclared written ≡ []
  -- its imports and exports are those that the options leave of the source, whose variables have the texts that are written for them
  pub interface : interface_of own_text written ≡ interface_of (final_text is_final) (with_bindings config left source)
  -- for every script of host answers, every number of turns, and with whatever contexts the written module gets its bindings
  pub runs : (options : Config) (turns : ℕ) (script : Script) (unresolved top given : ℕ) → AreGiven unresolved top given written
      → KeepsRun (observe turns options (with_bindings config left source) script) (observe turns options (resolved unresolved top given written) script)
