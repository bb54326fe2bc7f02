use Rattle.std.proofs.Common.{◌≡◌, None}
use Rattle.ecma_grammar.specs.trees.Chains.{steps}
use Rattle.ecma_grammar.specs.trees.Parts.{in_front}
use Rattle.ecma_nodes_expressions.proofs.chains.chained.Given as goal

abbrev pub invariant-loop-node : goal.invariant-loop-node
invariant-loop-node l = l.chain ≡ steps in_front None l.yielded
