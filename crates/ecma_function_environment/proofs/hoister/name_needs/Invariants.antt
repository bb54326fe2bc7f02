use Rattle.ecma_function_environment.proofs.Naming.{Naming}
use Rattle.ecma_function_environment.proofs.hoister.name_needs.Given as goal

-- the first i needs have names
abbrev pub invariant-loop-i : goal.invariant-loop-i
invariant-loop-i l = Naming l.needs l.fn.names.entries l.fn.session l.session l.names.entries l.i
