use Rattle.std.proofs.Common.{◌≡◌, ◌++◌}
use Rattle.ecma_tree.proofs.Weights.{weight}
use Rattle.ecma_merging.specs.Merging.{found}
use Rattle.ecma_merging.proofs.Walking.{rest_found}
use Rattle.ecma_merging.proofs.walk.+push_found.Given as goal

-- what is there, and what is found in the other children
abbrev pub invariant-loop-i : goal.invariant-loop-i
invariant-loop-i l = l.findings ++ rest_found l.asked l.ambient l.node l.i ≡ l.fn.findings ++ found l.asked l.node l.ambient

abbrev pub decreases-push_found : goal.decreases-push_found
decreases-push_found l = weight l.node.now
