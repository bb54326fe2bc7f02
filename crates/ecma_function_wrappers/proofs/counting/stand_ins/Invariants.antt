use Rattle.ecma_function_wrappers.proofs.Counted.{Standing}
use Rattle.ecma_function_wrappers.proofs.counting.stand_ins.Given as goal

-- the first i parameters have stand-ins
abbrev pub invariant-loop-i : goal.invariant-loop-i
invariant-loop-i l = Standing l.params l.fn.session l.session l.all l.i
