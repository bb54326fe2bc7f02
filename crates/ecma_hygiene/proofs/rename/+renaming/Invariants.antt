use Rattle.std.proofs.Common.{◌≡◌, ◌+◌, ◌*◌}
use Rattle.ecma_tree.proofs.Weights.{weight}
use Rattle.ecma_hygiene.specs.Kept.{texts_in}
use Rattle.ecma_hygiene.proofs.Writing.{front}
use Rattle.ecma_hygiene.proofs.rename.+renaming.Given as goal

-- the first i children have their texts
abbrev pub invariant-rename_children-loop-i : goal.invariant-rename_children-loop-i
invariant-rename_children-loop-i l = l.node ≡ front (texts_in l.renaming.texts) l.stands l.fn.node l.i

abbrev pub decreases-rename : goal.decreases-rename
decreases-rename l = 2 * weight l.node.now + 1

abbrev pub decreases-rename_children : goal.decreases-rename_children
decreases-rename_children l = 2 * weight l.node.now
