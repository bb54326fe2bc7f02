use Rattle.std.proofs.Common.{◌≡◌, ◌+◌, ◌*◌}
use Rattle.ecma_rules.specs.declared.target.Target.TheVariants as target
use Rattle.ecma_rules.proofs.Fronted.{front_finished}
use Rattle.ecma_tree.proofs.Weights.{weight}
use Rattle.ecma_rules.proofs.patterns.+finishing.Given as goal

-- the first i children are finished
abbrev pub invariant-finish_at-loop-i : goal.invariant-finish_at-loop-i
invariant-finish_at-loop-i l = l.node ≡ front_finished l.target l.fn.node l.i

abbrev pub invariant-finish_freely-loop-i : goal.invariant-finish_freely-loop-i
invariant-finish_freely-loop-i l = l.node ≡ front_finished target.Free l.fn.node l.i

abbrev pub decreases-finish_at : goal.decreases-finish_at
decreases-finish_at l = 3 * weight l.node.now

abbrev pub decreases-finish_freely : goal.decreases-finish_freely
decreases-finish_freely l = 3 * weight l.node.now + 1

abbrev pub decreases-finish_as : goal.decreases-finish_as
decreases-finish_as l = 3 * weight l.node.now + 2
