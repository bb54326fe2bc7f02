use Rattle.std.proofs.Common.{◌≡◌, drop}
use Rattle.ecma_forest.specs.Summaries.{join_summaries}
use Rattle.ecma_forest.specs.Slots.{slots_summary}
use Rattle.ecma_forest.proofs.forest.joined_summary.Given as goal

abbrev pub invariant-loop-slot : goal.invariant-loop-slot
invariant-loop-slot l = join_summaries l.summary (slots_summary (drop l.slot-index l.slots)) ≡ slots_summary l.slots
