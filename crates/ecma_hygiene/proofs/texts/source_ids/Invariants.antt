use Rattle.std.proofs.Common.{◌≡◌, ◌||◌, drop}
use Rattle.ecma_hygiene.specs.Ids.{Id}
use Rattle.ecma_hygiene.specs.Sets.{has_id}
use Rattle.ecma_hygiene.specs.Texts.{is_in_source}
use Rattle.ecma_hygiene.proofs.texts.source_ids.Given as goal

-- one that is there, or one of the others
abbrev pub invariant-loop-sight : goal.invariant-loop-sight
invariant-loop-sight l = (id : Id) → (has_id l.ids id || is_in_source (drop l.sight-index l.sight-items) id) ≡ is_in_source l.seen id
