use Rattle.std.proofs.Common.{◌≡◌}
use Rattle.ecma_tree.proofs.Weights.{weight}
use Rattle.ecma_lower.proofs.Fronted.{front_written}
use Rattle.ecma_lower.proofs.writing.+write_in.Given as goal

-- the first i children are written
abbrev pub invariant-loop-i : goal.invariant-loop-i
invariant-loop-i l = l.node ≡ front_written l.names l.seat l.fn.node l.i

abbrev pub decreases-write_in : goal.decreases-write_in
decreases-write_in l = weight l.node.now
