use Rattle.std.proofs.Common.{◌≡◌, map}
use Rattle.ecma_function.specs.Injecting.{var_of}
use Rattle.ecma_function.proofs.injecting.vars_of.Given as goal

-- those so far are declared
abbrev pub invariant-loop-ctxt : goal.invariant-loop-ctxt
invariant-loop-ctxt l = l.vars ≡ map var_of l.yielded
