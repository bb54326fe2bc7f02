use Rattle.std.proofs.Common.{◌≡◌, ◌+◌, [], ◌∷◌, ◌++◌, length}
use Rattle.ecma_grammar.specs.trees.Others.{namespace}
use Rattle.ecma_nodes_statements.proofs.statements.namespace.Given as goal

abbrev pub invariant-loop-i : goal.invariant-loop-i
invariant-loop-i l = (namespace l.span (l.names ++ l.body ∷ []) ≡ namespace l.span l.fn.items) × (length l.names + l.i ≡ l.count + 1)
