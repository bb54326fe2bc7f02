use Rattle.std.proofs.Common.{◌≡◌, ◌++◌, drop}
use Rattle.ecma_hygiene.specs.Sights.{beside}
use Rattle.ecma_hygiene.proofs.walk.push_beside.Given as goal

-- what is there, and what the others give
abbrev pub invariant-loop-ctxt : goal.invariant-loop-ctxt
invariant-loop-ctxt l = l.meetings ++ beside l.binding (drop l.ctxt-index l.ctxt-items) ≡ l.fn.meetings ++ beside l.binding l.ctxts
