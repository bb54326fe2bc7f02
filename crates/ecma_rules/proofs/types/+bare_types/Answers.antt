use Rattle.std.proofs.Common.{◌≡◌, ◌<◌, length, arith}
use Rattle.ecma_tree.specs.declared.node.Node.{out-Node}
use Rattle.ecma_tree.proofs.Fronts.{set-front}
use Rattle.ecma_tree.proofs.Weights.{weight}
use Rattle.ecma_rules.specs.Baring.{bared}
use Rattle.ecma_rules.proofs.Bared.{bared-all, own-smaller}
use Rattle.ecma_rules.proofs.types.+bare_types.Goals as goal

pub bare_types-requires : goal.bare_types-requires
bare_types-requires t c =
    let smaller : weight c.get_mut.result.now < weight c.args.tree.now = own-smaller c.args.tree.now c.drop_held.new.node c.loop-i.tree c.loop-i.i c.drop_held.ensures c.loop-i.invariant c.get_mut.result.now c.get_mut.ensures.value in
    (omega arith, tt)

pub loop-i-preserved : goal.loop-i-preserved
loop-i-preserved t c =
    set-front bared (λ span. span) (λ kind. kind) c.drop_held.new.node c.loop-i.tree c.loop-i.i c.get_mut.result.now c.bare_types.new.tree c.loop-i.invariant c.get_mut.ensures.value c.bare_types.ensures

pub returns : goal.returns
returns t c =
    let all : length (out-Node c.drop_held.new.node).children ≡ c.loop-i.i = omega arith in
    bared-all c.args.tree.now c.drop_held.new.node c.loop-i.tree c.loop-i.i c.drop_held.ensures c.loop-i.invariant all
