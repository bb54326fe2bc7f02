use Rattle.std.proofs.Common.{◌≡◌, ◌∙◌, ◌+◌, Option, ℕ, length, ap, arith}
use Rattle.ecma_tree.specs.declared.node.Node.{out-Node}
use Rattle.ecma_tree.proofs.Weights.{weight-child}
use Rattle.ecma_rules.specs.Failing.{least}
use Rattle.ecma_rules.proofs.Failures.{failing-all, failing-first, failing-next, rest_failing}
use Rattle.ecma_fits.specs.declared.unfit.Where.{Where}
use Rattle.ecma_fits.specs.Fitting.{first_unfit_in, unfit_here, where_in}
use Rattle.ecma_fits.proofs.unfit.+first_unfit_in.Goals as goal

pub loop-i-init : goal.loop-i-init
loop-i-init t c =
    failing-first Where unfit_here where_in c.args.place c.args.node.now c.unfit_here-found.result
    c.unfit_here-found.ensures

pub first_unfit_in-below-requires : goal.first_unfit_in-below-requires
first_unfit_in-below-requires t c =
    let smaller = weight-child c.args.node.now c.at.result.now c.loop-i.i c.at.ensures in
    (omega arith, tt)

pub loop-i-preserved : goal.loop-i-preserved
loop-i-preserved t c =
    ap (λ (z : Option ℕ). least z (rest_failing Where unfit_here where_in c.args.place c.args.node.now (c.loop-i.i + 1))) c.least-found.ensures
    ∙ failing-next Where unfit_here where_in c.args.place c.args.node.now c.loop-i.found c.first_unfit_in-below.result c.loop-i.i c.at.result.now c.at.ensures
    (c.first_unfit_in-below.ensures ∙ ap (first_unfit_in c.at.result.now) c.where_in.ensures) c.loop-i.invariant

pub returns : goal.returns
returns t c =
    let all : length (out-Node c.args.node.now).children ≡ c.loop-i.i = omega arith in
    failing-all Where unfit_here where_in c.args.place c.args.node.now c.loop-i.found c.loop-i.i all c.loop-i.invariant
