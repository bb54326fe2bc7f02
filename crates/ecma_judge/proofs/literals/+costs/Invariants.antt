use Rattle.std.proofs.Common.{◌≡◌, ◌+◌, ◌*◌, map}
use Rattle.ecma_tree.specs.declared.node.Node.{out-Node, size-Node}
use Rattle.ecma_judge.specs.Literals.{cost, cut, total}
use Rattle.ecma_judge.proofs.Costs.{total_from}
use Rattle.ecma_judge.proofs.literals.+costs.Given as goal

-- what those so far cost, and what the others do
abbrev pub invariant-total_cost-loop-i : goal.invariant-total_cost-loop-i
invariant-total_cost-loop-i l = (cut (l.all + total_from (out-Node l.list).children l.i) ≡ cut (total (map cost (out-Node l.list).children))) × (cut l.all ≡ l.all)

abbrev pub decreases-cost : goal.decreases-cost
decreases-cost l = 2 * size-Node l.node.now + 1

abbrev pub decreases-cost_at : goal.decreases-cost_at
decreases-cost_at l = 2 * size-Node l.node.now

abbrev pub decreases-total_cost : goal.decreases-total_cost
decreases-total_cost l = 2 * size-Node l.list.now
