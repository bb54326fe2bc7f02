-- Places do not matter.
use Rattle.std.specs.Prelude.{◌≡◌, ◌++◌, ℕ, List, [], IsTrue}
use Rattle.ecma_tree.specs.declared.node.Node.{Node}
use Rattle.ecma_runs.specs.Values.{Value}
use Rattle.ecma_runs.specs.State.{Id, Environment, Object, State}
use Rattle.ecma_runs.specs.Run.{Done}
use Rattle.ecma_runs.specs.Environment.{ToVariable, ToFree}
use Rattle.ecma_runs.specs.Functions.{read, read_typed}
use Rattle.ecma_runs.specs.Host.{Provided}
use Rattle.ecma_runs.specs.Meaning.{Known}
use Rattle.ecma_runs.specs.Evaluation.{meaning, calls, invoke, functions_with}
use Rattle.ecma_runs.specs.Exports.{Exported}
use Rattle.ecma_runs.specs.Observation.{act, run_body}
use Rattle.ecma_runs.specs.declared.script.Action.{Action}
use Rattle.ecma_run_places.specs.Worlds.{World, Same, States}
use Rattle.ecma_run_places.specs.Making.{only_makes}
use Rattle.ecma_run_places.specs.Alike.{Alike, FunctionsAlike, Contexts, first, second, MeansAlike}

-- the same node, in two contexts that are the same but for places, comes out alike from states that are the same but for places, in each role
abbrev pub PlacesDoNotMatter : Type 0
PlacesDoNotMatter = (n : Node) → MeansAlike (meaning n)

-- and so do calls, in the contexts in which the code of a module runs, and that of the functions that it calls, however deep
pub record CallsMindNoPlaces : Type 0 where
  pub in_module : (provided : Provided) (known : Known) → FunctionsAlike (functions_with (invoke provided known) provided known) (functions_with (invoke provided known) provided known)
  pub deeper : (provided : Provided) (known : Known) (depth : ℕ) →
      FunctionsAlike (functions_with (calls provided known depth) provided known) (functions_with (calls provided known depth) provided known)

-- and so do a module's body and each action of the host: the host sees the same answers
pub record HostsSeeNoPlaces : Type 0 where
  pub body : {w : World} (c : Contexts w) (m : Node) → Alike w Same (run_body (first c) m) (run_body (second c) m)
  pub action : {w : World} (c : Contexts w) (exports : List Exported) (a : Action) → Alike w Same (act (first c) exports a) (act (second c) exports a)

-- what is made besides, on either side, is free
abbrev pub WhatIsMadeBesidesIsFree : Type 0
WhatIsMadeBesidesIsFree =
    (w : World) (s s' : State) (objects objects' : List Object) (environments environments' : List Environment) → States w s s' →
    States w (record s { environments = s.environments ++ environments; objects = s.objects ++ objects })
    (record s' { environments = s'.environments ++ environments'; objects = s'.objects ++ objects' })

-- where a name gives a value, the state behind it is still the same but for places, in the same world, also where it is `arguments` and its object was made, and also under `typeof`
pub record NamesMayBeReadForNothing : Type 0 where
  pub variable : {w : World} (c : Contexts w) (place : ℕ) (id : Id) (s s' t : State) (v : Value) → States w s s' → read (first c) (ToVariable place id) s ≡ Done v t → States w t s'
  pub free : {w : World} (c : Contexts w) (name : List ℕ) (s s' t : State) (v : Value) → States w s s' → read (first c) (ToFree name) s ≡ Done v t → States w t s'
  pub under_typeof : {w : World} (c : Contexts w) (name : List ℕ) (s s' t : State) (v : Value) → States w s s' → read_typed (first c) (ToFree name) s ≡ Done v t → States w t s'

-- so it is where an expression gives a value that only reads names and makes what nobody else has, and no name is that of a member of an enum: it may be dropped, and what follows does the same
abbrev pub WhatOnlyMakesMayGo : Type 0
WhatOnlyMakesMayGo =
    (e : Node) (w : World) (c : Contexts w) (s s' t : State) (v : Value) → c.known.enums.names ≡ [] → IsTrue (only_makes e) → States w s s' → (meaning e).value (first c) s ≡ Done v t → States w t s'
