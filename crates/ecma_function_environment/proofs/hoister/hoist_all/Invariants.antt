use Rattle.std.proofs.Common.{◌≡◌, ◌++◌, drop, map, take}
use Rattle.ecma_function_environment.specs.declared.seat.Seat.TheVariants as seat
use Rattle.ecma_function_environment.specs.Hoisting.{hoisted_one}
use Rattle.ecma_function_environment.proofs.hoister.hoist_all.Given as goal

-- the first i statements are done
abbrev pub invariant-loop-i : goal.invariant-loop-i
invariant-loop-i l = l.stmts.items ≡ map (hoisted_one l.flags l.names.entries seat.Other) (take l.i l.fn.stmts.items) ++ drop l.i l.fn.stmts.items
