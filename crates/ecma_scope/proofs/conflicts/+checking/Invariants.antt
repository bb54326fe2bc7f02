use Rattle.std.proofs.Common.{◌≡◌, ◌+◌, ◌*◌, map}
use Rattle.ecma_tree.specs.declared.node.Node.{out-Node}
use Rattle.ecma_tree.proofs.Weights.{weight}
use Rattle.ecma_scope.specs.Conflicts.{child_surrounding, surrounding}
use Rattle.ecma_scope.specs.Clashes.{clashes_at, clashes_below, first_clash, sooner}
use Rattle.ecma_scope.proofs.Clashing.{clashes_from, plain_surrounding}
use Rattle.ecma_scope.proofs.conflicts.+checking.Given as goal

-- the first of the first i children is found
abbrev pub invariant-first_below-loop-i : goal.invariant-first_below-loop-i
invariant-first_below-loop-i l =
    first_clash (clashes_below (child_surrounding l.role l.own l.around l.node) 0 (map clashes_at (out-Node l.node).children))
    ≡ sooner l.first (first_clash (clashes_from (child_surrounding l.role l.own l.around l.node) (out-Node l.node).children l.i))

-- and the same where the node opens no scope
abbrev pub invariant-first_in_plain-loop-i : goal.invariant-first_in_plain-loop-i
invariant-first_in_plain-loop-i l =
    first_clash (clashes_at l.node (surrounding l.role l.around)) ≡ sooner l.first (first_clash (clashes_from (plain_surrounding l.role l.around l.node) (out-Node l.node).children l.i))

abbrev pub decreases-first_in : goal.decreases-first_in
decreases-first_in l = 3 * weight l.node.now + 2

abbrev pub decreases-first_in_scope : goal.decreases-first_in_scope
decreases-first_in_scope l = 3 * weight l.node.now + 1

abbrev pub decreases-first_in_plain : goal.decreases-first_in_plain
decreases-first_in_plain l = 3 * weight l.node.now

abbrev pub decreases-first_below : goal.decreases-first_below
decreases-first_below l = 3 * weight l.node.now
