use Rattle.std.proofs.Common.{◌≡◌, ◌||◌, ◌&&◌, not, drop}
use Rattle.std.specs.List.{list_any}
use Rattle.ecma_hygiene.specs.declared.sight.Meeting.{Meeting}
use Rattle.ecma_hygiene.specs.Ids.{Id, same_id}
use Rattle.ecma_hygiene.specs.Sets.{has_id, has_new}
use Rattle.ecma_hygiene.proofs.texts.met_ids.Given as goal

-- one that is there, or one of the others
abbrev pub invariant-loop-meeting : goal.invariant-loop-meeting
invariant-loop-meeting l = (id : Id) → (has_id l.ids id || list_any (λ (m : Meeting). same_id m.binding id && not (has_new l.new m.name)) (drop l.meeting-index l.meeting-items)) ≡ list_any (λ (m : Meeting). same_id m.binding id && not (has_new l.new m.name)) l.met
