use Rattle.std.proofs.Common.{◌≡◌, ◌+◌, ◌*◌}
use Rattle.ecma_rules.specs.Failing.{least}
use Rattle.ecma_rules.specs.Walks.{first_broken_in, unasked}
use Rattle.ecma_rules.proofs.Together.{rest_broken}
use Rattle.ecma_tree.proofs.Weights.{weight}
use Rattle.ecma_rules.proofs.broken.+breaking.Given as goal

-- what was found, and what the other children have
abbrev pub invariant-first_broken_in-loop-i : goal.invariant-first_broken_in-loop-i
invariant-first_broken_in-loop-i l = least l.found (rest_broken l.strays_below l.around l.node l.i) ≡ first_broken_in l.with_strays l.node l.around

abbrev pub invariant-first_broken_freely-loop-i : goal.invariant-first_broken_freely-loop-i
invariant-first_broken_freely-loop-i l =
    least l.found (rest_broken l.with_strays (unasked l.is_last) l.node l.i) ≡ first_broken_in l.with_strays l.node (unasked l.is_last)

abbrev pub decreases-first_broken_in : goal.decreases-first_broken_in
decreases-first_broken_in l = 3 * weight l.node.now

abbrev pub decreases-first_broken_freely : goal.decreases-first_broken_freely
decreases-first_broken_freely l = 3 * weight l.node.now + 1

abbrev pub decreases-first_broken_around : goal.decreases-first_broken_around
decreases-first_broken_around l = 3 * weight l.node.now + 2
