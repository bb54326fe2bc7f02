use Rattle.std.proofs.Common.{◌≡◌, map}
use Rattle.ecma_grammar.specs.trees.Functions.{wrapped}
use Rattle.ecma_nodes_parts.proofs.signatures.parameters.Given as goal

abbrev pub invariant-loop-pattern : goal.invariant-loop-pattern
invariant-loop-pattern l = l.all ≡ map wrapped l.yielded
