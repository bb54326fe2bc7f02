use Rattle.std.proofs.Common.{◌≡◌, None}
use Rattle.ecma_grammar.specs.trees.Chains.{steps, in_front_link}
use Rattle.ecma_nodes_expressions.proofs.chains.links.Given as goal

abbrev pub invariant-loop-node : goal.invariant-loop-node
invariant-loop-node l = l.chain ≡ steps in_front_link None l.yielded
