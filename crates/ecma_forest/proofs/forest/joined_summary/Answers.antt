use Rattle.std.proofs.Common.{◌≡◌, ◌+◌, ◌∙◌, Some, ap, drop, length, refl, slice_get, sym}
use Rattle.std.proofs.lemmas.List.{drop_all}
use Rattle.std.proofs.lemmas.Option.{slice_get_read}
use Rattle.ecma_forest.specs.Slots.{slots_summary}
use Rattle.ecma_forest.specs.Summaries.{join_summaries}
use Rattle.ecma_forest.proofs.Joining.{join-none, slots_summary-item}
use Rattle.ecma_forest.proofs.forest.joined_summary.Goals as goal

pub loop-slot-preserved : goal.loop-slot-preserved
loop-slot-preserved c =
    let slots = c.args.slots.now in
    let i = c.loop-slot.slot-index in
    let there : slice_get slots i ≡ Some c.slot-item.result = slice_get_read slots (length slots) i c.slot-item.result refl c.loop-slot-test.true c.slot-item.is in
    ap (λ m. join_summaries m (slots_summary (drop (i + 1) slots))) c.join-summary.ensures
    ∙ slots_summary-item c.loop-slot.summary slots i c.slot-item.result there
    ∙ c.loop-slot.invariant

pub returns : goal.returns
returns c =
    sym (join-none c.loop-slot.summary)
    ∙ ap (λ ss. join_summaries c.loop-slot.summary (slots_summary ss)) (sym (drop_all c.loop-slot.slot-index c.args.slots.now c.loop-slot-test.false))
    ∙ c.loop-slot.invariant
