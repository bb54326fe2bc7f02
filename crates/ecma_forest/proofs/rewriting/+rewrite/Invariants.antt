use Rattle.std.proofs.Common.{◌≡◌, ◌++◌}
use Rattle.ecma_tree.specs.declared.node.Node.{size-Node}
use Rattle.ecma_forest.specs.Slots.{Extends}
use Rattle.ecma_forest.specs.Trees.{node}
use Rattle.ecma_forest.proofs.Rest.{front}
use Rattle.ecma_forest.proofs.rewriting.+rewrite.Given as goal

-- the old trees stand where they stood; behind the roots is what the first children became
abbrev pub invariant-loop-i : goal.invariant-loop-i
invariant-loop-i g l =
    Extends l.fn.forest.below l.forest.below
    × (l.forest.roots ≡ l.fn.forest.roots ++ front (g.R.Rule.rule l.rule) (node l.fn.forest l.at) l.i)

abbrev pub decreases-rewrite : goal.decreases-rewrite
decreases-rewrite g l = size-Node (node l.forest.now l.at)
