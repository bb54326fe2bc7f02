use Rattle.std.proofs.Common.{◌≡◌, ◌++◌, drop, map, take}
use Rattle.ecma_function.specs.This.{initialised}
use Rattle.ecma_function.proofs.this.init_this.Given as goal

-- the first i statements are done
abbrev pub invariant-loop-i : goal.invariant-loop-i
invariant-loop-i l = l.stmts.items ≡ map (initialised l.this_id) (take l.i l.fn.stmts.items) ++ drop l.i l.fn.stmts.items
