use Rattle.std.proofs.Common.{◌≡◌, ◌∙◌, ◌+◌, Some, ap, drop, sym}
use Rattle.ecma_merging.specs.declared.finding.Finding.{Finding}
use Rattle.ecma_merging.specs.Merging.{soonest_from}
use Rattle.ecma_merging.proofs.Soonest.{soonest-next}
use Rattle.ecma_merging.proofs.finding.soonest_name.Goals as goal

pub loop-i-preserved : goal.loop-i-preserved
loop-i-preserved c =
    ap (λ (f : Finding). Some (soonest_from f (drop (c.loop-i.i + 1) c.args.findings.now))) c.sooner-first.ensures
    ∙ ap Some (sym (soonest-next c.args.findings.now c.loop-i.i c.loop-i.first.now c.at.result.now c.at.ensures)) ∙ c.loop-i.invariant
