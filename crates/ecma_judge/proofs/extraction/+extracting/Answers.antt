use Rattle.std.proofs.Common.{◌+◌, List, sym, subst, arith}
use Rattle.ecma_tree.specs.declared.node.Node.{Node, out-Node}
use Rattle.ecma_tree.proofs.Weights.{weight-child}
use Rattle.ecma_judge.proofs.Extracting.{Extracted, extracted-next, extracted-part}
use Rattle.ecma_judge.proofs.extraction.+extracting.Goals as goal

pub extract_first-extract-requires : goal.extract_first-extract-requires
extract_first-extract-requires t c =
    let smaller = weight-child c.args.node c.replace-part.result 0 c.replace-part.ensures.item in
    (omega arith, tt)

pub extract_parts-extract-requires : goal.extract_parts-extract-requires
extract_parts-extract-requires t c =
    let was = extracted-part c.args.ctx.now (out-Node c.args.node).children c.args.to.now c.loop-i.parts c.loop-i.to c.loop-i.i c.loop-i.invariant c.replace-part.result c.replace-part.ensures.item in
    let smaller = weight-child c.args.node c.replace-part.result c.loop-i.i was in
    (omega arith, tt)

pub extract_parts-loop-i-preserved : goal.extract_parts-loop-i-preserved
extract_parts-loop-i-preserved t c =
    subst (λ (ps : List Node). Extracted c.args.ctx.now (out-Node c.args.node).children c.args.to.now ps c.extract.new.to (c.loop-i.i + 1)) (sym c.replace-part.ensures.rest)
    (extracted-next c.args.ctx.now (out-Node c.args.node).children c.args.to.now c.loop-i.parts c.loop-i.to c.loop-i.i c.loop-i.invariant c.extract.new.to
    c.replace-part.result _ c.replace-part.ensures.item c.in_ok-extract.ensures.done)
