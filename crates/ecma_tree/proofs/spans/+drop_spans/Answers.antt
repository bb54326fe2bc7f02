use Rattle.std.proofs.Common.{◌≡◌, ◌∙◌, sym, length, arith}
use Rattle.ecma_tree.specs.declared.node.Node.{out-Node}
use Rattle.ecma_tree.proofs.Changing.{front_changed-all, without_spans-changed, nowhere, same}
use Rattle.ecma_tree.specs.Changing.{changed}
use Rattle.ecma_tree.proofs.Fronts.{set-front}
use Rattle.ecma_tree.proofs.spans.+drop_spans.Goals as goal

pub loop-i-preserved : goal.loop-i-preserved
loop-i-preserved t c =
    set-front (changed nowhere same) nowhere same c.args.node.now c.loop-i.node c.loop-i.i c.get_mut.result.now c.drop_spans.new.node c.loop-i.invariant c.get_mut.ensures.value c.drop_spans.ensures

pub returns : goal.returns
returns t c =
    let all : length (out-Node c.args.node.now).children ≡ c.loop-i.i = omega arith in
    c.loop-i.invariant ∙ front_changed-all nowhere same c.args.node.now c.loop-i.i all ∙ sym (without_spans-changed c.args.node.now)
