use Rattle.std.proofs.Common.{◌∙◌, sym}
use Rattle.ecma_enums.specs.Folding.{kid, kids_of}
use Rattle.ecma_enums.proofs.Joining.{template-next}
use Rattle.ecma_enums.proofs.Kids.{count}
use Rattle.ecma_enums.proofs.folding.+folding.Goals as goal

-- the part at i, and what stands behind it, are put behind the others
pub template-loop-i-preserved : goal.template-loop-i-preserved
template-loop-i-preserved t c =
    sym (template-next (kid (kids_of c.args.computer.now c.args.node.now) 1).items (kid (kids_of c.args.computer.now c.args.node.now) 0).items
    c.loop-i.i c.count_at-parts.result c.loop-i.text c.in_ok-with.field-0 c.in_ok-text.text c.in_ok-part.part c.in_ok-value.value
    (count c.args.computer.now c.args.node.now 1 ∙ sym c.count_at-parts.ensures) c.loop-i-test.true c.in_ok-part.ensures c.in_ok-value.ensures c.in_ok-with.ensures c.in_ok-text.ensures)
    ∙ c.loop-i.invariant
