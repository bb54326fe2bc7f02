use Rattle.std.proofs.Common.{◌≡◌, ◌++◌, drop}
use Rattle.ecma_hygiene.proofs.scope.push_contexts.Given as goal

-- what is there, and the others
abbrev pub invariant-loop-ctxt : goal.invariant-loop-ctxt
invariant-loop-ctxt l = l.so_far ++ drop l.ctxt-index l.ctxt-items ≡ l.fn.so_far ++ l.ctxts
