use Rattle.std.proofs.Common.{◌≡◌, ◌+◌, ◌*◌}
use Rattle.ecma_rules.specs.Failing.{least}
use Rattle.ecma_rules.specs.Frames.{held_of}
use Rattle.ecma_rules.specs.Jumps.{Held, first_held_stray, held_in, stray_here}
use Rattle.ecma_rules.proofs.Failures.{rest_failing}
use Rattle.ecma_tree.proofs.Weights.{weight}
use Rattle.ecma_rules.proofs.jumps.+straying.Given as goal

-- what was found, and what the other children have
abbrev pub invariant-first_held_stray-loop-i : goal.invariant-first_held_stray-loop-i
invariant-first_held_stray-loop-i l =
    least l.found (rest_failing Held stray_here held_in (held_of l.strays l.labels) l.node l.i) ≡ first_held_stray l.node (held_of l.strays l.labels)

abbrev pub decreases-first_held_stray : goal.decreases-first_held_stray
decreases-first_held_stray l = 2 * weight l.node.now

abbrev pub decreases-first_stray_behind : goal.decreases-first_stray_behind
decreases-first_stray_behind l = 2 * weight l.node.now + 1
