use Rattle.std.proofs.Common.{◌≡◌}
use Rattle.ecma_walks.specs.Listing.{some_item}
use Rattle.ecma_tree.specs.declared.node.Node.{Node}
use Rattle.ecma_find.specs.Finders.{rules_of}
use Rattle.ecma_find.specs.Found.{taken_among}
use Rattle.ecma_find.specs.Names.{itself}
use Rattle.ecma_find.proofs.Finding.{finds_among_rest}
use Rattle.ecma_find.proofs.search.finds.Given as goal

-- nothing is found so far: the other nodes decide
abbrev pub invariant-loop-node : goal.invariant-loop-node
invariant-loop-node l =
    some_item Node (taken_among Node itself (rules_of l.finder) l.place l.node-items) ≡ finds_among_rest (rules_of l.finder)
    l.place l.node-items l.node-index
