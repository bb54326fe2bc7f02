use Rattle.std.proofs.Common.{◌≡◌, map}
use Rattle.ecma_utils.specs.Expressions.{param_of}
use Rattle.ecma_function_wrappers.proofs.parts.params_from.Given as goal

-- those so far are parameters
abbrev pub invariant-loop-pattern : goal.invariant-loop-pattern
invariant-loop-pattern l = l.params ≡ map param_of l.yielded
