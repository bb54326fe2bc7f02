-- A module's body and the host's actions do alike.
use Rattle.std.proofs.Common.{refl, ℕ, List, [], ◌∷◌, Bool}
use Rattle.ecma_tree.specs.declared.node.Node.{Node}
use Rattle.ecma_runs.specs.declared.script.Action.{Action}
use Rattle.ecma_runs.specs.declared.script.Action.TheVariants as action
use Rattle.ecma_runs.specs.declared.script.Answer.TheVariants as answer
use Rattle.ecma_runs.specs.Values.{Value}
use Rattle.ecma_runs.specs.State.{Id, Entered}
use Rattle.ecma_runs.specs.Exports.{Exported, Local, Indirect, Star, has_star}
use Rattle.ecma_runs.specs.Run.{Outcome, Run}
use Rattle.ecma_runs.specs.Host.{import_value}
use Rattle.ecma_runs.specs.Evaluation.{meaning}
use Rattle.ecma_runs.specs.Observation.{outcome_shown, shown_to_host, read_local, read_entry, read_from, done_by, act, run_body}
use Rattle.ecma_run_places.specs.Worlds.{World, Same, is, Like, undefineds, more, no_more, entered_like, Scopes}
use Rattle.ecma_run_places.specs.Alike.{Outcomes, both_done, both_thrown, both_returned, both_broken, both_continued, both_ended, Alike, Contexts, first, second, MeansAlike}
use Rattle.ecma_run_places.proofs.Growing.{later}
use Rattle.ecma_run_places.proofs.Combinators.{Keeps, stays_alike, keeps_alike, kept_bind_same, here_bind, bind_same, raised, give_kept, outside_kept, give_alike, when_kept, each_kept}
use Rattle.ecma_run_places.proofs.Host.{handled_kept, taken_kept, taken_if_kept, show_kept}
use Rattle.ecma_run_places.proofs.Records.{read_variable_kept}
use Rattle.ecma_run_places.proofs.Members.{member_alike, set_member_alike}
use Rattle.ecma_run_places.proofs.Functions.{call_value_alike, construct_alike}

shown_by : {w : World} {r r' : Outcome Value} → Outcomes w Like r r' → Outcomes w Same (outcome_shown r) (outcome_shown r')
shown_by (both_done p st q) = raised p (stays_alike ((kept_bind_same (show_kept _ _ q) (λ s. give_kept (is {a = answer.Return s}))).at st))
shown_by (both_thrown p st q) = raised p (stays_alike ((kept_bind_same (show_kept _ _ q) (λ s. give_kept (is {a = answer.Throw s}))).at st))
shown_by (both_returned p st q) = both_ended p st
shown_by (both_broken p st) = both_ended p st
shown_by (both_continued p st) = both_ended p st
shown_by (both_ended p st) = both_ended p st

shown_alike : {w : World} {m m' : Run Value} → Alike w Like m m' → Alike w Same (shown_to_host m) (shown_to_host m')
shown_alike h = record { at = λ st. shown_by (h.at st) }

-- ---- exports

read_local_kept : {w : World} (c : Contexts w) {scope scope' : List Entered} → Scopes w scope scope' → (id : Id) → Keeps w Like (read_local (first c) scope id) (read_local (second c) scope' id)
read_local_kept c no_more id = outside_kept
read_local_kept c (more (entered_like p) es) id = read_variable_kept c.provided.imports p id

read_entry_kept : {w : World} (c : Contexts w) (entry : Exported) → Keeps w Like (read_entry (first c) entry) (read_entry (second c) entry)
read_entry_kept c (Local name id) = read_local_kept c c.scopes id
read_entry_kept c (Indirect name source imported) = taken_if_kept (import_value c.provided.imports source imported)
read_entry_kept c Star = outside_kept

read_from_kept : {w : World} (c : Contexts w) (star : Bool) (name : List ℕ) (entries : List Exported) → Keeps w Like (read_from (first c) star name entries) (read_from (second c) star name entries)
read_from_kept c star name [] = when_kept refl outside_kept (give_kept undefineds)
read_from_kept c star name (entry ∷ entries) = when_kept refl (when_kept refl (read_entry_kept c entry) outside_kept) (read_from_kept c star name entries)

-- ---- actions

done_by_alike : {w : World} (c : Contexts w) (exports : List Exported) (a : Action) → Alike w Like (done_by (first c) exports a) (done_by (second c) exports a)
done_by_alike c exports (action.ReadExport name) = keeps_alike (read_from_kept c (has_star exports) name exports)
done_by_alike c exports (action.Get handle key) = here_bind (handled_kept handle) (λ _ _ o. member_alike c o key)
done_by_alike c exports (action.Set handle key value) =
    here_bind (handled_kept handle) (λ _ _ o. here_bind (taken_kept value) (λ _ _ v. bind_same (set_member_alike c o key v) (λ _ u _. give_alike undefineds)))
done_by_alike c exports (action.Call handle this arguments) =
    here_bind (handled_kept handle) (λ _ _ f. here_bind (taken_kept this) (λ _ _ receiver. here_bind (each_kept taken_kept arguments) (λ _ _ vs. call_value_alike c f receiver vs)))
done_by_alike c exports (action.New handle arguments) = here_bind (handled_kept handle) (λ _ _ f. here_bind (each_kept taken_kept arguments) (λ _ _ vs. construct_alike c f vs))

pub act_alike : {w : World} (c : Contexts w) (exports : List Exported) (a : Action) → Alike w Same (act (first c) exports a) (act (second c) exports a)
act_alike c exports a = shown_alike (done_by_alike c exports a)

-- ---- a module's body

pub body_alike : {w : World} (c : Contexts w) (n : Node) → MeansAlike (meaning n) → Alike w Same (run_body (first c) n) (run_body (second c) n)
body_alike c n h = shown_alike (bind_same (h.hoisted c) (λ v u _. bind_same (h.completion (later u c)) (λ v' u' _. give_alike undefineds)))
