use Rattle.std.proofs.Common.{◌≡◌, ◌∙◌, ◌+◌, ◌-◌, ◌++◌, List, length, ap, sym, arith}
use Rattle.ecma_hygiene.specs.declared.sight.Meeting.{Meeting}
use Rattle.ecma_hygiene.specs.Ids.{Scope}
use Rattle.ecma_hygiene.specs.Sights.{beside_parameters}
use Rattle.ecma_hygiene.proofs.Arounds.{beside-none, innermost-at, innermost-none}
use Rattle.ecma_hygiene.proofs.Walking.{append-none}
use Rattle.ecma_hygiene.proofs.walk.push_beside_innermost.Goals as goal

pub returns-then-count-eq0 : goal.returns-then-count-eq0
returns-then-count-eq0 c =
    let none : length c.args.frames.now ≡ 0 = omega arith in
    sym (ap (λ (s : Scope). c.args.meetings.now ++ beside_parameters s c.args.ids.now) (innermost-none c.args.frames.now none)
    ∙ ap (λ (ms : List Meeting). c.args.meetings.now ++ ms) (beside-none c.args.ids.now) ∙ append-none c.args.meetings.now)

pub returns : goal.returns
returns c =
    let last : length c.args.frames.now ≡ (c.len-count.result - 1) + 1 = omega arith in
    c.in_ok-push_beside_parameters.ensures {u = tt}
    ∙ ap (λ (s : Scope). c.args.meetings.now ++ beside_parameters s c.args.ids.now) (sym (innermost-at c.args.frames.now (c.len-count.result - 1) c.at.result.now c.at.ensures last))
