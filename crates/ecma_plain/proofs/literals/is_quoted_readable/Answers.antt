use Rattle.std.proofs.Common.{◌≡◌, length, arith}
use Rattle.std.proofs.lemmas.Grind.{common_steps}
use Rattle.ecma_plain.proofs.Counting.{as_counted, counted-first, counted-next, too_long}
use Rattle.ecma_plain.proofs.literals.is_quoted_readable.Goals as goal

pub loop-left-init : goal.loop-left-init
loop-left-init c = counted-first c.args.text.now

pub returns-then-written-ge-TOO_MANY : goal.returns-then-written-ge-TOO_MANY
returns-then-written-ge-TOO_MANY c = too_long c.args.text.now c.loop-left.left.now c.loop-left.written c.loop-left.invariant.0 (omega arith)

pub loop-left-preserved : goal.loop-left-preserved
loop-left-preserved c =
    counted-next c.args.text.now c.loop-left.left.now c.behind_unit-left.result.now c.loop-left.written c.unit_length-more.result c.loop-left.invariant.0 (omega arith)
    c.unit_length-more.ensures.length c.unit_length-more.ensures.small c.behind_unit-left.ensures

pub returns : goal.returns
returns c =
    let none : length c.loop-left.left.now ≡ 0 = grind (arith, common_steps) in
    as_counted c.args.text.now c.loop-left.left.now c.loop-left.written c.loop-left.invariant.0 none
