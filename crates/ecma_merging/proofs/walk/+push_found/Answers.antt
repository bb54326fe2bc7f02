use Rattle.std.proofs.Common.{◌≡◌, ◌∙◌, ◌++◌, Bool, length, ap, arith}
use Rattle.ecma_tree.specs.declared.node.Node.{out-Node}
use Rattle.ecma_tree.proofs.Weights.{weight-child}
use Rattle.ecma_merging.specs.Merging.{found}
use Rattle.ecma_merging.proofs.Walking.{found-below, found-first, found-whole}
use Rattle.ecma_merging.proofs.walk.+push_found.Goals as goal

pub loop-i-init : goal.loop-i-init
loop-i-init t c = found-first c.args.asked c.args.ambient c.args.node.now c.args.findings.now c.push_here.new.findings (c.in_ok-push_here.ensures {u = tt})

pub push_found-requires : goal.push_found-requires
push_found-requires t c =
    let smaller = weight-child c.args.node.now c.at.result.now c.loop-i.i c.at.ensures in
    (omega arith, tt)

pub loop-i-preserved : goal.loop-i-preserved
loop-i-preserved t c =
    found-below c.args.asked c.args.ambient c.args.node.now c.args.findings.now c.loop-i.findings c.push_found.new.findings c.loop-i.i c.at.result.now c.at.ensures c.loop-i.invariant
    (c.in_ok-push_found.ensures {u = tt} ∙ ap (λ (b : Bool). c.loop-i.findings ++ found c.args.asked c.at.result.now b) c.is_ambient_in-inner.ensures)

pub returns : goal.returns
returns t c =
    let all : length (out-Node c.args.node.now).children ≡ c.loop-i.i = omega arith in
    found-whole c.args.asked c.args.ambient c.args.node.now c.args.findings.now c.loop-i.findings c.loop-i.i all c.loop-i.invariant
