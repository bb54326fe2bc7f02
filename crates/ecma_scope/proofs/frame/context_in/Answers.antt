use Rattle.std.proofs.Common.{◌≡◌, ◌∙◌, ◌+◌, ◌-◌, sym, ap, cond, Bool, arith}
use Rattle.ecma_scope.proofs.Framing.{given-kept, given-open}
use Rattle.ecma_scope.proofs.frame.context_in.Goals as goal

pub returns-then-stays : goal.returns-then-stays
returns-then-stays c =
    let next : c.loop-i.i ≡ (c.loop-i.i - 1) + 1 = omega arith in
    sym (c.loop-i.invariant.same
    ∙ given-kept c.args.unresolved c.args.frames.now c.args.sym.now (c.loop-i.i - 1) c.loop-i.i c.at-frame.result.now c.in-Some.stays c.at-frame.ensures next (sym c.states.ensures ∙ c.in-Some.is)
    ∙ ap (λ (b : Bool). cond b c.at-frame.result.now.ctxt c.args.unresolved) c.if-stays.true)

pub returns-else-stays : goal.returns-else-stays
returns-else-stays c =
    let next : c.loop-i.i ≡ (c.loop-i.i - 1) + 1 = omega arith in
    sym (c.loop-i.invariant.same
    ∙ given-kept c.args.unresolved c.args.frames.now c.args.sym.now (c.loop-i.i - 1) c.loop-i.i c.at-frame.result.now c.in-Some.stays c.at-frame.ensures next (sym c.states.ensures ∙ c.in-Some.is)
    ∙ ap (λ (b : Bool). cond b c.at-frame.result.now.ctxt c.args.unresolved) c.if-stays.false)

pub loop-i-preserved : goal.loop-i-preserved
loop-i-preserved c =
    let next : c.loop-i.i ≡ (c.loop-i.i - 1) + 1 = omega arith in
    record {
      within = omega arith;
      same = c.loop-i.invariant.same
          ∙ given-open c.args.unresolved c.args.frames.now c.args.sym.now (c.loop-i.i - 1) c.loop-i.i c.at-frame.result.now c.at-frame.ensures next (sym c.states.ensures ∙ c.in_default.is);
    }
