use Rattle.std.proofs.Common.{◌≡◌, length, arith}
use Rattle.ecma_tree.specs.declared.node.Node.{out-Node}
use Rattle.ecma_tree.proofs.Weights.{weight-child}
use Rattle.ecma_plain.specs.Plain.{IsPlainKind}
use Rattle.ecma_plain.proofs.Walks.{left-all, left-first, left-next}
use Rattle.ecma_plain.proofs.plain.+are_plain_kinds.Goals as goal

pub loop-i-init : goal.loop-i-init
loop-i-init t c = left-first IsPlainKind c.args.node.now c.is_plain_kind-all.result c.is_plain_kind-all.ensures

pub are_plain_kinds-below-requires : goal.are_plain_kinds-below-requires
are_plain_kinds-below-requires t c =
    let smaller = weight-child c.args.node.now c.at.result.now c.loop-i.i c.at.ensures in
    (omega arith, tt)

pub loop-i-preserved : goal.loop-i-preserved
loop-i-preserved t c =
    left-next IsPlainKind c.args.node.now c.loop-i.i c.at.result.now c.loop-i.all c.are_plain_kinds-below.result c.both-all.result c.at.ensures
    c.are_plain_kinds-below.ensures c.both-all.ensures c.loop-i.invariant

pub returns : goal.returns
returns t c =
    let all : length (out-Node c.args.node.now).children ≡ c.loop-i.i = omega arith in
    left-all IsPlainKind c.args.node.now c.loop-i.i c.loop-i.all all c.loop-i.invariant
