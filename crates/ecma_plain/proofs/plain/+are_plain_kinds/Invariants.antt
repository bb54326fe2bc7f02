use Rattle.std.proofs.Common.{◌↔◌, drop}
use Rattle.ecma_tree.specs.declared.node.Node.{out-Node}
use Rattle.ecma_tree.proofs.Weights.{weight}
use Rattle.ecma_text_leaves.specs.Everywhere.{Everywhere}
use Rattle.ecma_plain.specs.Plain.{IsPlainKind}
use Rattle.ecma_plain.proofs.Walks.{Left}
use Rattle.ecma_plain.proofs.plain.+are_plain_kinds.Given as goal

-- so far it is known, and the other children decide
abbrev pub invariant-loop-i : goal.invariant-loop-i
invariant-loop-i l = Left IsPlainKind l.all (drop l.i (out-Node l.node).children) ↔ Everywhere IsPlainKind l.node

abbrev pub decreases-are_plain_kinds : goal.decreases-are_plain_kinds
decreases-are_plain_kinds l = weight l.node.now
