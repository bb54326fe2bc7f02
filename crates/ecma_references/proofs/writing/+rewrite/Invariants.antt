use Rattle.std.proofs.Common.{◌≡◌}
use Rattle.ecma_tree.specs.declared.node.Node.{out-Node}
use Rattle.ecma_tree.proofs.Weights.{weight}
use Rattle.ecma_references.specs.Answers.{answer_of}
use Rattle.ecma_references.proofs.Fronted.{front}
use Rattle.ecma_references.proofs.writing.+rewrite.Given as goal

-- the first i children are done, and what stands for the node's name is that of the node as it stood
abbrev pub invariant-loop-i : goal.invariant-loop-i
invariant-loop-i g l = record {
  done : l.node ≡ front (g.T.QueryRef.answers l.query) l.seat l.fn.node l.i;
  asked : l.answer ≡ answer_of (g.T.QueryRef.answers l.query) l.seat (out-Node l.fn.node).span (out-Node l.fn.node).kind (out-Node l.fn.node).children;
}

abbrev pub decreases-rewrite : goal.decreases-rewrite
decreases-rewrite g l = weight l.node.now
