use Rattle.std.proofs.Common.{◌≡◌, map}
use Rattle.ecma_lower_enums.specs.Steps.{with_first}
use Rattle.ecma_lower_enums.proofs.parts.wrap_each.Given as goal

abbrev pub invariant-loop-e : goal.invariant-loop-e
invariant-loop-e l = l.wrapped ≡ map (with_first l.node) l.yielded
