use Rattle.std.proofs.Common.{◌≡◌, ◌∙◌, ◌<◌, length, refl, sym, arith}
use Rattle.std.proofs.lemmas.Option.{slice_get_read}
use Rattle.ecma_enclose.specs.Enclosing.{front_length, goes}
use Rattle.ecma_enclose.proofs.Fronts.{front-all, front-next, front-stops}
use Rattle.ecma_enclose.proofs.enclosing.gone_of.Goals as goal

pub returns-then-not-goes-clause-value : goal.returns-then-not-goes-clause-value
returns-then-not-goes-clause-value c =
    let xs = c.args.statements.now in
    let within : c.loop-i.i < length xs = omega arith in
    let at = slice_get_read xs (length xs) c.loop-i.i c.index-statements-i.result refl within c.index-statements-i.is in
    sym (front-stops goes xs c.loop-i.i c.index-statements-i.result (front_length goes xs) at (sym c.if-not-goes.ensures) c.loop-i.invariant)

pub loop-i-preserved : goal.loop-i-preserved
loop-i-preserved c =
    let xs = c.args.statements.now in
    let within : c.loop-i.i < length xs = omega arith in
    let at = slice_get_read xs (length xs) c.loop-i.i c.index-statements-i.result refl within c.index-statements-i.is in
    front-next goes xs c.loop-i.i c.index-statements-i.result (front_length goes xs) at (sym c.if-not-goes.ensures) c.loop-i.invariant

pub returns-clause-value : goal.returns-clause-value
returns-clause-value c =
    let xs = c.args.statements.now in
    let all : length xs ≡ c.loop-i.i = omega arith in
    all ∙ sym (front-all goes xs c.loop-i.i (front_length goes xs) all c.loop-i.invariant)
