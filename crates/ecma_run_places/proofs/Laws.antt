-- The laws.
use Rattle.std.proofs.Common.{◌≡◌, subst}
use Rattle.ecma_runs.specs.Values.{Value}
use Rattle.ecma_runs.specs.State.{State}
use Rattle.ecma_runs.specs.Run.{Done, Run}
use Rattle.ecma_run_places.specs.Worlds.{World, States}
use Rattle.ecma_run_places.specs.Laws.{PlacesDoNotMatter, CallsMindNoPlaces, HostsSeeNoPlaces, WhatIsMadeBesidesIsFree, NamesMayBeReadForNothing, WhatOnlyMakesMayGo}
use Rattle.ecma_run_places.proofs.Making.{only_makes_drops}
use Rattle.ecma_run_places.proofs.Dropping.{besides, Drops, Dropped, dropped_done, read_variable_drops, free_drops, typed_drops}
use Rattle.ecma_run_places.proofs.Actions.{act_alike, body_alike}
use Rattle.ecma_runs.specs.Evaluation.{calls, invoke}
use Rattle.ecma_run_places.proofs.Nodes.{means_alike, functions_with_alike, calls_alike, invoke_alike}

pub places_do_not_matter : PlacesDoNotMatter
places_do_not_matter n = means_alike n

pub calls_mind_no_places : CallsMindNoPlaces
calls_mind_no_places = record {
  in_module = λ provided known. functions_with_alike provided known (invoke provided known) (invoke_alike provided known);
  deeper = λ provided known depth. functions_with_alike provided known (calls provided known depth) (calls_alike provided known depth);
}

pub hosts_see_no_places : HostsSeeNoPlaces
hosts_see_no_places = record { body = λ c m. body_alike c m (means_alike m); action = λ c exports a. act_alike c exports a }

pub what_is_made_besides_is_free : WhatIsMadeBesidesIsFree
what_is_made_besides_is_free w s s' objects objects' environments environments' st = besides st objects objects' environments environments'

-- behind a run of the first side that gives a value
behind : {w : World} {m : Run Value} → Drops w m → (s s' t : State) (v : Value) → States w s s' → m s ≡ Done v t → States w t s'
behind {w} h s s' t v st is = dropped_done (subst (Dropped w s') is (h.at st))

pub names_may_be_read_for_nothing : NamesMayBeReadForNothing
names_may_be_read_for_nothing = record {
  variable = λ c place id s s' t v st is. behind (read_variable_drops c.provided.imports place id) s s' t v st is;
  free = λ c name s s' t v st is. behind (free_drops c name) s s' t v st is;
  under_typeof = λ c name s s' t v st is. behind (typed_drops c name) s s' t v st is;
}

pub what_only_makes_may_go : WhatOnlyMakesMayGo
what_only_makes_may_go e w c s s' t v none is st done = behind (only_makes_drops e is c none) s s' t v st done
