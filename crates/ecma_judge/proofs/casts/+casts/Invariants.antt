use Rattle.std.proofs.Common.{◌≡◌, ◌+◌, ◌*◌}
use denote.Shadow.{shadow}
use denote.Text.{Utf8}
use Rattle.std.specs.Prelude.{string_bytes}
use Rattle.ecma_tree.specs.declared.node.Node.{size-Node}
use Rattle.ecma_judge.specs.Judged.{kids_of}
use Rattle.ecma_judge.specs.Texts.{joined}
use Rattle.ecma_judge.proofs.Joining.{rest_joined}
use Rattle.ecma_judge.proofs.casts.+casts.Given as goal

-- what is joined so far, and what the other elements add
abbrev pub invariant-joined-loop-i : goal.invariant-joined-loop-i
invariant-joined-loop-i l = (rest_joined l.ctx l.list (string_bytes l.joined) l.separator l.i ≡ joined (kids_of l.ctx l.list)) × shadow (Utf8 l.separator)

abbrev pub decreases-truth : goal.decreases-truth
decreases-truth l = 4 * size-Node l.node.now + 2

abbrev pub decreases-number : goal.decreases-number
decreases-number l = 4 * size-Node l.node.now + 2

abbrev pub decreases-text : goal.decreases-text
decreases-text l = 4 * size-Node l.node.now + 2

abbrev pub decreases-element : goal.decreases-element
decreases-element l = 4 * size-Node l.node.now + 3

abbrev pub decreases-unary_truth : goal.decreases-unary_truth
decreases-unary_truth l = 4 * size-Node l.node.now + 1

abbrev pub decreases-binary_truth : goal.decreases-binary_truth
decreases-binary_truth l = 4 * size-Node l.node.now + 1

abbrev pub decreases-assigned_truth : goal.decreases-assigned_truth
decreases-assigned_truth l = 4 * size-Node l.node.now + 1

abbrev pub decreases-unary_number : goal.decreases-unary_number
decreases-unary_number l = 4 * size-Node l.node.now + 1

abbrev pub decreases-unary_text : goal.decreases-unary_text
decreases-unary_text l = 4 * size-Node l.node.now + 1

abbrev pub decreases-truth_at : goal.decreases-truth_at
decreases-truth_at l = 4 * size-Node l.node.now

abbrev pub decreases-number_at : goal.decreases-number_at
decreases-number_at l = 4 * size-Node l.node.now

abbrev pub decreases-text_at : goal.decreases-text_at
decreases-text_at l = 4 * size-Node l.node.now

abbrev pub decreases-joined : goal.decreases-joined
decreases-joined l = 4 * size-Node l.list.now
