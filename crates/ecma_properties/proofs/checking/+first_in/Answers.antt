use Rattle.std.proofs.Common.{◌≡◌, ◌∙◌, ◌+◌, Bool, Option, ℕ, length, ap, arith}
use Rattle.ecma_tree.specs.declared.node.Node.{out-Node}
use Rattle.ecma_tree.proofs.Weights.{weight-child}
use Rattle.ecma_rules.specs.Failing.{first_failing, least}
use Rattle.ecma_rules.proofs.Failures.{failing-all, failing-first, failing-next, rest_failing}
use Rattle.ecma_properties.specs.declared.standing.Around.{Around}
use Rattle.ecma_properties.specs.Refusing.{refused_here}
use Rattle.ecma_properties.specs.Standing.{around_in}
use Rattle.ecma_properties.proofs.checking.+first_in.Goals as goal

pub loop-i-init : goal.loop-i-init
loop-i-init t c =
    failing-first Around (refused_here c.args.rule) around_in c.args.around c.args.tree.now c.in_ok-found.found (c.in_ok-found.ensures {u = tt})

pub first_in-requires : goal.first_in-requires
first_in-requires t c =
    let smaller = weight-child c.args.tree.now c.at.result.now c.loop-i.i c.at.ensures in
    (omega arith, tt)

pub loop-i-preserved : goal.loop-i-preserved
loop-i-preserved t c =
    ap (λ (z : Option ℕ). least z (rest_failing Around (refused_here c.args.rule) around_in c.args.around c.args.tree.now (c.loop-i.i + 1))) c.least-found.ensures
    ∙ failing-next Around (refused_here c.args.rule) around_in c.args.around c.args.tree.now c.loop-i.found c.in_ok-below.below c.loop-i.i c.at.result.now c.at.ensures
    (c.in_ok-below.ensures {u = tt} ∙ ap (first_failing Around (refused_here c.args.rule) around_in c.at.result.now) c.around_in-inside.ensures) c.loop-i.invariant

pub returns : goal.returns
returns t c =
    let all : length (out-Node c.args.tree.now).children ≡ c.loop-i.i = omega arith in
    failing-all Around (refused_here c.args.rule) around_in c.args.around c.args.tree.now c.loop-i.found c.loop-i.i all c.loop-i.invariant
