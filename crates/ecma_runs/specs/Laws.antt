-- The laws of `observe`.
use Rattle.std.specs.Prelude.{◌≡◌, ◌≢◌, ℕ, ◌+◌, List, [], ◌++◌, true, IsTrue}
use Rattle.ecma_tree.specs.declared.node.Node.{Node}
use Rattle.ecma_runs.specs.Erasure.{without_types}
use Rattle.ecma_config.specs.declared.config.Config.{Config}
use Rattle.ecma_runs.specs.declared.observation.Event.{Event}
use Rattle.ecma_runs.specs.declared.observation.Ending.TheVariants as ending
use Rattle.ecma_runs.specs.declared.script.Action.{Action}
use Rattle.ecma_runs.specs.declared.script.Script.{Script}
use Rattle.ecma_runs.specs.Values.{Value}
use Rattle.ecma_runs.specs.State.{Id, Entered, State}
use Rattle.ecma_runs.specs.Exports.{Exported}
use Rattle.ecma_runs.specs.Run.{Outcome, Done, Thrown, Returned, Broken, Continued, Ended}
use Rattle.ecma_runs.specs.Host.{Provided}
use Rattle.ecma_runs.specs.Meaning.{Invocation, Known}
use Rattle.ecma_runs.specs.Evaluation.{apply, invoke}
use Rattle.ecma_runs.specs.Observation.{observe, module_context, run_body, act}
use Rattle.ecma_runs.specs.Enums.{lacks_enums}
use Rattle.ecma_runs.specs.Names.{renamed, IsRenaming}
use Rattle.ecma_runs.specs.Meeting.{MayMeet}
use Rattle.ecma_runs.specs.Sources.{AgreeUpToSources}
use Rattle.ecma_runs.specs.Uses.{uses_nothing}
use Rattle.ecma_runs.specs.Wrappers.{without_wrappers, without_parentheses}

-- trees that are equal up to spans and the source texts of literals run alike
abbrev pub SpansAndSourcesDoNotMatter : Type 0
SpansAndSourcesDoNotMatter = (turns : ℕ) (options : Config) (m m' : Node) (script : Script) → AgreeUpToSources m m' → observe turns options m script ≡ observe turns options m' script

-- a tree runs as it does without its types
abbrev pub TypesDoNotMatter : Type 0
TypesDoNotMatter = (turns : ℕ) (options : Config) (m : Node) (script : Script) → observe turns options (without_types m) script ≡ observe turns options m script

-- a tree runs as it does without the types that wrap expressions, wherever they stand
abbrev pub WrappersDoNotMatter : Type 0
WrappersDoNotMatter = (turns : ℕ) (options : Config) (m : Node) (script : Script) → observe turns options (without_wrappers m) script ≡ observe turns options m script

-- a tree without enums runs as it does without parentheses that end no optional chain
abbrev pub ParenthesesDoNotMatter : Type 0
ParenthesesDoNotMatter = (turns : ℕ) (options : Config) (m : Node) (script : Script) → lacks_enums m ≡ true → observe turns options (without_parentheses m) script ≡ observe turns options m script

-- names may be mapped one to one, but for the texts of free ones and of keys
abbrev pub NamesDoNotMatter : Type 0
NamesDoNotMatter = (turns : ℕ) (options : Config) (m : Node) (script : Script) (to : Id → Id) → IsRenaming to m → observe turns options (renamed to m) script ≡ observe turns options m script

-- names may also be mapped several to one, where no identifier is caught
abbrev pub NamesMayMeet : Type 0
NamesMayMeet = (turns : ℕ) (options : Config) (m : Node) (script : Script) (to : Id → Id) → MayMeet to m → observe turns options (renamed to m) script ≡ observe turns options m script

-- a run that did not want for turns is the same with more
abbrev pub SpareTurnsDoNotMatter : Type 0
SpareTurnsDoNotMatter =
    (turns more : ℕ) (options : Config) (m : Node) (script : Script) → (observe turns options m script).ending ≢ ending.TurnsSpent →
    observe (turns + more) options m script ≡ observe turns options m script

-- a call is a turn, and then what the function does, in which calls are calls again: it does not matter how deep they stand
abbrev pub CallsAreApplications : Type 0
CallsAreApplications =
    (provided : Provided) (known : Known) (function : ℕ) (how : Invocation) (arguments : List Value) →
    invoke provided known function how arguments ≡ apply (invoke provided known) provided known function how arguments

-- the state in which a part of a run comes out
abbrev pub state_behind : {A : Type 0} → Outcome A → State
state_behind (Done a s) = s
state_behind (Thrown v s) = s
state_behind (Returned v s) = s
state_behind (Broken s) = s
state_behind (Continued s) = s
state_behind (Ended why s) = s

-- events, and more behind them
abbrev pub Extends : List Event → List Event → Type 0
Extends before after = (more : List Event) × (after ≡ before ++ more)

-- the events before are the first of those behind
pub record EventsOnlyGrow : Type 0 where
  -- while a module's body runs
  pub body : (provided : Provided) (known : Known) (entered : Entered) (m : Node) (s : State) → Extends s.events (state_behind (run_body (module_context provided known entered) m s)).events
  -- while an action is done
  pub action : (provided : Provided) (known : Known) (entered : Entered) (exports : List Exported) (a : Action) (s : State) → Extends s.events (state_behind (act (module_context provided known entered) exports a s)).events
  -- with more actions behind those of a script
  pub actions : (turns : ℕ) (options : Config) (m : Node) (script : Script) (more : List Action) →
      Extends (observe turns options m script).events (observe turns options m (record script { actions = script.actions ++ more })).events

-- a module without members and calls has no events, as long as the host does nothing with it
abbrev pub DeclarationsAloneHaveNoEvents : Type 0
DeclarationsAloneHaveNoEvents =
    (turns : ℕ) (options : Config) (m : Node) (script : Script) → IsTrue (uses_nothing m) → (observe turns options m (record script { actions = [] })).events ≡ []
