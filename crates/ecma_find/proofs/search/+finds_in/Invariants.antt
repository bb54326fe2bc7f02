use Rattle.std.proofs.Common.{◌≡◌, Some}
use Rattle.ecma_tree.specs.declared.node.Node.{size-Node}
use Rattle.ecma_find.specs.Finders.{rules_of}
use Rattle.ecma_find.specs.Found.{finds_within}
use Rattle.ecma_find.proofs.Finding.{finds_in_rest}
use Rattle.ecma_find.proofs.search.+finds_in.Given as goal

-- nothing is found so far: the other children decide
abbrev pub invariant-loop-i : goal.invariant-loop-i
invariant-loop-i l = finds_within (rules_of l.finder) (Some l.place) l.node ≡ finds_in_rest (rules_of l.finder) l.place l.node l.i

abbrev pub decreases-finds_in : goal.decreases-finds_in
decreases-finds_in l = size-Node l.node.now
