use Rattle.std.proofs.Common.{◌<◌, length, arith}
use Rattle.ecma_forest.proofs.Changed.{change-step}
use Rattle.ecma_forest.proofs.kinds.change_kinds.Goals as goal

pub loop-i-preserved : goal.loop-i-preserved
loop-i-preserved g c =
    let within : c.loop-i.i < length c.args.kinds.now.items = omega (arith, c.args.kinds.now.ok.0) in
    change-step (g.C.Change.kind_to c.args.change.now) c.args.kinds.now.items c.loop-i.kinds.items c.loop-i.i c.index_mut.result.now c.change.new.kind c.loop-i.invariant within c.index_mut.ensures.value c.change.ensures
