use Rattle.std.proofs.Common.{◌≡◌, ◌+◌, ◌*◌, map, drop}
use Rattle.std.specs.List.{list_any}
use Rattle.ecma_tree.specs.declared.node.Node.{out-Node, size-Node}
use Rattle.ecma_find.proofs.statements.+terminating.Given as goal
use Rattle.ecma_find.specs.Statements.{terminates}

-- the children that are left decide
abbrev pub invariant-any_terminates-loop-child : goal.invariant-any_terminates-loop-child
invariant-any_terminates-loop-child l =
    list_any (λ b. b) (map terminates (drop l.child-index l.child-items)) ≡ list_any (λ b. b) (map terminates (out-Node l.node).children)

abbrev pub decreases-terminates : goal.decreases-terminates
decreases-terminates l = 2 * size-Node l.stmt.now + 1

abbrev pub decreases-terminates_at : goal.decreases-terminates_at
decreases-terminates_at l = 2 * size-Node l.node.now

abbrev pub decreases-any_terminates : goal.decreases-any_terminates
decreases-any_terminates l = 2 * size-Node l.node.now
