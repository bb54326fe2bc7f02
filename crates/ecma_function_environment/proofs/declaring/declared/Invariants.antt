use Rattle.ecma_function_environment.proofs.Declared.{Declaring}
use Rattle.ecma_function_environment.proofs.declaring.declared.Given as goal

-- the first i names have declarators
abbrev pub invariant-loop-i : goal.invariant-loop-i
invariant-loop-i l = Declaring l.in_subclass l.names.entries l.entries l.fn.session l.session l.decls l.i
