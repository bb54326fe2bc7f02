use Rattle.std.proofs.Common.{◌≡◌, ◌||◌, drop, map}
use Rattle.ecma_tree.specs.declared.node.Node.{out-Node}
use Rattle.ecma_tree.proofs.Weights.{weight}
use Rattle.ecma_plain.specs.Functions.{any_unusual, functions}
use Rattle.ecma_plain.proofs.functions.+has_unusual.Given as goal

-- what the other children have, or what was found
abbrev pub invariant-loop-i : goal.invariant-loop-i
invariant-loop-i l = (any_unusual (map functions (drop l.i (out-Node l.node).children)) || l.found) ≡ (functions l.node).has_unusual

abbrev pub decreases-has_unusual : goal.decreases-has_unusual
decreases-has_unusual l = weight l.node.now
