use Rattle.std.proofs.Common.{◌≡◌}
use Rattle.ecma_tree.specs.Finding.{is_ident, enters_all, mentions}
use Rattle.ecma_tree.specs.declared.node.Node.{size-Node}
use Rattle.ecma_tree.proofs.Finding.{finds_in_rest}
use Rattle.ecma_forest.proofs.find.+mentions.Given as goal

-- nothing is found so far: what is left decides
abbrev pub invariant-loop-i : goal.invariant-loop-i
invariant-loop-i l = mentions l.sym l.tree ≡ finds_in_rest (is_ident l.sym) enters_all l.tree l.i

abbrev pub decreases-mentions : goal.decreases-mentions
decreases-mentions l = size-Node l.tree.now
