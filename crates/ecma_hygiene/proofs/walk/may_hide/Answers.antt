use Rattle.std.proofs.Common.{◌≡◌, ◌∙◌, ◌+◌, ◌-◌, ℕ, [], ap, arith, drop, sym}
use Rattle.ecma_hygiene.specs.Frames.{scopes_of}
use Rattle.ecma_hygiene.specs.Sights.{hidden}
use Rattle.ecma_hygiene.proofs.Hiding.{hidden-inside, hidden-without, not-false}
use Rattle.ecma_hygiene.proofs.walk.may_hide.Goals as goal

pub returns-then-found : goal.returns-then-found
returns-then-found c = λ h.
    let next : (c.loop-count.count - 1) + 1 ≡ c.loop-count.count = omega arith in
    let has = sym c.match_in-found.ensures.id ∙ not-false c.match_in-found.result.id h in
    hidden-inside c.args.frames.now (c.loop-count.count - 1) c.at.result.now c.args.id.now c.at.ensures has
    ∙ ap (λ (k : ℕ). hidden (scopes_of (drop k c.args.frames.now)) c.args.id.now []) next ∙ c.loop-count.invariant.hides

pub loop-count-preserved : goal.loop-count-preserved
loop-count-preserved c =
    let next : (c.loop-count.count - 1) + 1 ≡ c.loop-count.count = omega arith in
    record {
      within = omega arith;
      hides = hidden-without c.args.frames.now (c.loop-count.count - 1) c.at.result.now c.args.id.now c.at.ensures (c.match_in-found.ensures.text c.if-found.false)
          ∙ ap (λ (k : ℕ). hidden (scopes_of (drop k c.args.frames.now)) c.args.id.now []) next ∙ c.loop-count.invariant.hides;
    }
