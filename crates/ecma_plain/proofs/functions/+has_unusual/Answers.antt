use Rattle.std.proofs.Common.{◌≡◌, length, arith}
use Rattle.ecma_tree.specs.declared.node.Node.{out-Node}
use Rattle.ecma_tree.proofs.Weights.{weight-child}
use Rattle.ecma_plain.proofs.Telling.{unusual-all, unusual-first, unusual-next}
use Rattle.ecma_plain.proofs.functions.+has_unusual.Goals as goal

pub loop-i-init : goal.loop-i-init
loop-i-init t c = unusual-first c.args.node.now c.is_unusual-found.result c.is_unusual-found.ensures

pub has_unusual-below-requires : goal.has_unusual-below-requires
has_unusual-below-requires t c =
    let smaller = weight-child c.args.node.now c.at.result.now c.loop-i.i c.at.ensures in
    (omega arith, tt)

pub loop-i-preserved : goal.loop-i-preserved
loop-i-preserved t c =
    unusual-next c.args.node.now c.loop-i.i c.at.result.now c.loop-i.found c.has_unusual-below.result c.either-found.result c.at.ensures
    c.has_unusual-below.ensures c.either-found.ensures c.loop-i.invariant

pub returns : goal.returns
returns t c =
    let all : length (out-Node c.args.node.now).children ≡ c.loop-i.i = omega arith in
    unusual-all c.args.node.now c.loop-i.i c.loop-i.found all c.loop-i.invariant
