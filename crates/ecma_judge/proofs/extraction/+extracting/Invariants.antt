use Rattle.std.proofs.Common.{◌+◌, ◌*◌}
use Rattle.ecma_tree.specs.declared.node.Node.{out-Node}
use Rattle.ecma_tree.proofs.Weights.{weight}
use Rattle.ecma_judge.proofs.Extracting.{Extracted}
use Rattle.ecma_judge.proofs.extraction.+extracting.Given as goal

-- what is extracted of the parts so far stands behind the others, and the parts that are left are those of the node
abbrev pub invariant-extract_parts-loop-i : goal.invariant-extract_parts-loop-i
invariant-extract_parts-loop-i l = Extracted l.ctx (out-Node l.fn.node).children l.fn.to l.parts l.to l.i

abbrev pub decreases-extract : goal.decreases-extract
decreases-extract l = 2 * weight l.expr + 1

abbrev pub decreases-extract_parts : goal.decreases-extract_parts
decreases-extract_parts l = 2 * weight l.node

abbrev pub decreases-extract_first : goal.decreases-extract_first
decreases-extract_first l = 2 * weight l.node
