use Rattle.std.proofs.Common.{◌≡◌, ◌+◌, ◌*◌}
use Rattle.ecma_tree.specs.declared.node.Node.{size-Node}
use Rattle.ecma_enums.specs.Folded.{joined, template}
use Rattle.ecma_enums.specs.Folding.{kid, kids_of}
use Rattle.ecma_enums.specs.Joined.{seen}
use Rattle.ecma_enums.proofs.Joining.{rest}
use Rattle.ecma_enums.proofs.folding.+folding.Given as goal

-- what is joined so far, and what the other parts add
abbrev pub invariant-template-loop-i : goal.invariant-template-loop-i
invariant-template-loop-i l =
    joined (seen l.text) (rest (kid (kids_of l.computer l.node) 1).items (kid (kids_of l.computer l.node) 0).items l.i)
    ≡ template (kid (kids_of l.computer l.node) 1).items (kid (kids_of l.computer l.node) 0).items

abbrev pub decreases-fold : goal.decreases-fold
decreases-fold l = 8 * size-Node l.node.now + 6

abbrev pub decreases-template : goal.decreases-template
decreases-template l = 8 * size-Node l.node.now + 3

abbrev pub decreases-unary : goal.decreases-unary
decreases-unary l = 8 * size-Node l.node.now + 3

abbrev pub decreases-binary : goal.decreases-binary
decreases-binary l = 8 * size-Node l.node.now + 3

abbrev pub decreases-value_behind : goal.decreases-value_behind
decreases-value_behind l = 8 * size-Node l.node.now + 2

abbrev pub decreases-item_at : goal.decreases-item_at
decreases-item_at l = 8 * size-Node l.node.now + 1

abbrev pub decreases-fold_at : goal.decreases-fold_at
decreases-fold_at l = 8 * size-Node l.node.now
