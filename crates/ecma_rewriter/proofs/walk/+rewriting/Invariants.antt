use Rattle.std.proofs.Common.{◌≡◌, ◌+◌, ◌*◌}
use Rattle.std.specs.Option.{is_some}
use Rattle.ecma_tree.specs.declared.node.Node.{out-Node}
use Rattle.ecma_tree.proofs.Weights.{weight}
use Rattle.ecma_rewriter.specs.Seats.{seat}
use Rattle.ecma_rewriter.proofs.Walking.{Along, Over}
use Rattle.ecma_rewriter.proofs.walk.+rewriting.Given as goal

-- the items before i are done, and what is around those that are left is known
abbrev pub invariant-rewrite_items-loop-i : goal.invariant-rewrite_items-loop-i
invariant-rewrite_items-loop-i g l =
    Along (g.R.Rewriter.rewriting l.r) l.place l.around (out-Node l.fn.list).children l.parts l.own l.out l.i
    × (is_some l.own ≡ g.R.Rewriter.moves l.r l.place)

-- the children before i are done
abbrev pub invariant-rewrite_over-loop-i : goal.invariant-rewrite_over-loop-i
invariant-rewrite_over-loop-i g l =
    Over (g.R.Rewriter.rewriting l.r) (λ i. seat (g.R.Rewriter.child_place l.r l.by l.place (out-Node l.fn.node).kind i) l.inside)
    (out-Node l.fn.node).children l.parts l.lists l.i

abbrev pub decreases-rewrite : goal.decreases-rewrite
decreases-rewrite g l = 4 * weight l.node + 2

abbrev pub decreases-rewrite_over : goal.decreases-rewrite_over
decreases-rewrite_over g l = 4 * weight l.node + 1

abbrev pub decreases-rewrite_items : goal.decreases-rewrite_items
decreases-rewrite_items g l = 4 * weight l.list + 1

abbrev pub decreases-rewrite_item : goal.decreases-rewrite_item
decreases-rewrite_item g l = 4 * weight l.item + 3
