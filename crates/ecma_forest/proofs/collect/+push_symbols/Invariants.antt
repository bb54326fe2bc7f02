use Rattle.std.proofs.Common.{◌≡◌, ◌++◌}
use Rattle.ecma_tree.specs.Gathering.{symbols_of}
use Rattle.ecma_tree.specs.declared.node.Node.{size-Node}
use Rattle.ecma_forest.proofs.Gathered.{symbols_in_rest}
use Rattle.ecma_forest.proofs.collect.+push_symbols.Given as goal

-- what is there, and what the other children give
abbrev pub invariant-loop-i : goal.invariant-loop-i
invariant-loop-i l = l.symbols ++ symbols_in_rest l.tree l.i ≡ l.fn.symbols ++ symbols_of l.tree

abbrev pub decreases-push_symbols : goal.decreases-push_symbols
decreases-push_symbols l = size-Node l.tree.now
