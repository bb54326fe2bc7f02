use Rattle.std.proofs.Common.{◌≡◌, ◌∙◌, ◌+◌, Bool, Option, ℕ, length, ap, arith}
use Rattle.ecma_tree.specs.declared.node.Node.{out-Node}
use Rattle.ecma_tree.proofs.Weights.{weight-child}
use Rattle.ecma_rules.specs.Failing.{first_failing, least}
use Rattle.ecma_rules.proofs.Failures.{failing-all, failing-first, failing-next, rest_failing}
use Rattle.ecma_forms.specs.Forms.{gone_inside, untaken_here}
use Rattle.ecma_forms.proofs.places.+first_in.Goals as goal

pub loop-i-init : goal.loop-i-init
loop-i-init t c =
    failing-first Bool (untaken_here c.args.assign) gone_inside c.args.gone c.args.tree.now c.untaken_here-found.result c.untaken_here-found.ensures

pub first_in-below-requires : goal.first_in-below-requires
first_in-below-requires t c =
    let smaller = weight-child c.args.tree.now c.at.result.now c.loop-i.i c.at.ensures in
    (omega arith, tt)

pub loop-i-preserved : goal.loop-i-preserved
loop-i-preserved t c =
    ap (λ (z : Option ℕ). least z (rest_failing Bool (untaken_here c.args.assign) gone_inside c.args.gone c.args.tree.now (c.loop-i.i + 1))) c.least-found.ensures
    ∙ failing-next Bool (untaken_here c.args.assign) gone_inside c.args.gone c.args.tree.now c.loop-i.found c.first_in-below.result c.loop-i.i c.at.result.now c.at.ensures
    (c.first_in-below.ensures ∙ ap (first_failing Bool (untaken_here c.args.assign) gone_inside c.at.result.now) c.gone_inside-around.ensures) c.loop-i.invariant

pub returns : goal.returns
returns t c =
    let all : length (out-Node c.args.tree.now).children ≡ c.loop-i.i = omega arith in
    failing-all Bool (untaken_here c.args.assign) gone_inside c.args.gone c.args.tree.now c.loop-i.found c.loop-i.i all c.loop-i.invariant
