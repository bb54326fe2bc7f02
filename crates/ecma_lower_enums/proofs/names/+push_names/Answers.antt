use Rattle.std.proofs.Common.{◌≡◌, length, arith}
use Rattle.ecma_tree.specs.declared.node.Node.{out-Node}
use Rattle.ecma_lower_enums.proofs.Naming.{names-all, names-first, names-next}
use Rattle.ecma_lower_enums.proofs.names.+push_names.Goals as goal

pub loop-i-init : goal.loop-i-init
loop-i-init t c = names-first c.args.node.now c.args.names.now c.push_here.new.names (c.in_ok-push_here.ensures {u = tt})

pub loop-i-preserved : goal.loop-i-preserved
loop-i-preserved t c =
    names-next c.args.node.now c.args.names.now c.loop-i.names c.push_names.new.names c.loop-i.i c.at.result.now c.at.ensures c.loop-i.invariant
    (c.in_ok-push_names.ensures {u = tt})

pub returns : goal.returns
returns t c =
    let all : length (out-Node c.args.node.now).children ≡ c.loop-i.i = omega arith in
    names-all c.args.node.now c.args.names.now c.loop-i.names c.loop-i.i all c.loop-i.invariant
