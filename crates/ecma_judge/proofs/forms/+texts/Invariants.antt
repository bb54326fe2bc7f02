use Rattle.std.proofs.Common.{◌+◌, ◌*◌}
use Rattle.ecma_tree.specs.declared.node.Node.{size-Node}
use Rattle.ecma_judge.proofs.forms.+texts.Given as goal

abbrev pub decreases-is_text : goal.decreases-is_text
decreases-is_text l = 2 * size-Node l.node.now + 1

abbrev pub decreases-is_text_at : goal.decreases-is_text_at
decreases-is_text_at l = 2 * size-Node l.node.now
