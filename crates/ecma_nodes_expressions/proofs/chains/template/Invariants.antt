use Rattle.std.proofs.Common.{◌≡◌, filter}
use Rattle.ecma_grammar.specs.trees.Chains.{is_text_part, is_substitution}
use Rattle.ecma_nodes_expressions.proofs.chains.template.Given as goal

abbrev pub invariant-loop-node : goal.invariant-loop-node
invariant-loop-node l = (l.exprs ≡ filter is_substitution l.yielded) × (l.quasis ≡ filter is_text_part l.yielded)
