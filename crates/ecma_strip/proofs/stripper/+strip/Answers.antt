use Rattle.std.proofs.Common.{◌≡◌, ◌∙◌, ◌<◌, length, arith}
use Rattle.ecma_tree.specs.declared.node.Node.{out-Node, size-Node}
use Rattle.ecma_tree.proofs.Fronts.{set-front}
use Rattle.ecma_strip.specs.Stripping.{stripped}
use Rattle.ecma_strip.proofs.Smaller.{staying-smaller}
use Rattle.ecma_strip.proofs.Stripping.{left-at, stripped-all}
use Rattle.ecma_strip.proofs.stripper.+strip.Goals as goal

pub strip-requires : goal.strip-requires
strip-requires t c =
    let at = left-at c.args.node.now c.drop_from_list.new.node c.loop-i.node c.loop-i.i c.drop_from_list.ensures c.loop-i.invariant c.get_mut.result.now c.get_mut.ensures.value in
    let smaller : size-Node c.get_mut.result.now < size-Node c.args.node.now = staying-smaller c.args.node.now c.get_mut.result.now c.loop-i.i at in
    (omega arith, tt)

pub loop-i-preserved : goal.loop-i-preserved
loop-i-preserved t c =
    set-front stripped (λ span. span) (λ kind. kind) c.drop_from_list.new.node c.loop-i.node c.loop-i.i c.get_mut.result.now c.strip.new.node c.loop-i.invariant c.get_mut.ensures.value c.strip.ensures

pub returns : goal.returns
returns t c =
    let all : length (out-Node c.drop_from_list.new.node).children ≡ c.loop-i.i = omega arith in
    c.make_plain.ensures ∙ stripped-all c.args.node.now c.drop_from_list.new.node c.loop-i.node c.loop-i.i c.drop_from_list.ensures c.loop-i.invariant all
