use Rattle.std.proofs.Common.{◌≡◌}
use Rattle.ecma_rules.specs.Failing.{least}
use Rattle.ecma_rules.specs.Jumps.{Held, first_stray, held_in, not_held, stray_here}
use Rattle.ecma_rules.proofs.Failures.{rest_failing}
use Rattle.ecma_tree.proofs.Weights.{weight}
use Rattle.ecma_rules.proofs.jumps.+first_stray.Given as goal

-- what was found, and what the other children have
abbrev pub invariant-loop-i : goal.invariant-loop-i
invariant-loop-i l = least l.found (rest_failing Held stray_here held_in not_held l.tree l.i) ≡ first_stray l.tree

abbrev pub decreases-first_stray : goal.decreases-first_stray
decreases-first_stray l = weight l.tree.now
