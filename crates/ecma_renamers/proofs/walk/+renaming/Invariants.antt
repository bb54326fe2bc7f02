use Rattle.std.proofs.Common.{◌≡◌, ◌+◌, ◌*◌}
use Rattle.ecma_tree.proofs.Weights.{weight}
use Rattle.ecma_renamers.specs.Renamers.{renaming_of}
use Rattle.ecma_renamers.proofs.Writing.{front}
use Rattle.ecma_renamers.proofs.walk.+renaming.Given as goal

-- the first i children are renamed
abbrev pub invariant-rename_children-loop-i : goal.invariant-rename_children-loop-i
invariant-rename_children-loop-i l = l.node ≡ front (renaming_of l.rule) l.spot l.fn.node l.i

abbrev pub decreases-rename : goal.decreases-rename
decreases-rename l = 2 * weight l.node.now + 1

abbrev pub decreases-rename_children : goal.decreases-rename_children
decreases-rename_children l = 2 * weight l.node.now
