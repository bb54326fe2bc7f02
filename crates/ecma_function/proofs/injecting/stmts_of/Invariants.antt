use Rattle.std.proofs.Common.{◌≡◌, map}
use Rattle.ecma_utils.specs.Expressions.{expr_stmt_of}
use Rattle.ecma_function.proofs.injecting.stmts_of.Given as goal

-- those so far are statements
abbrev pub invariant-loop-e : goal.invariant-loop-e
invariant-loop-e l = l.stmts ≡ map expr_stmt_of l.yielded
