use Rattle.std.proofs.Common.{◌≡◌, ◌++◌, drop}
use Rattle.ecma_hygiene.specs.Sights.{meet}
use Rattle.ecma_hygiene.proofs.walk.push_meet.Given as goal

-- what is there, and what the others give
abbrev pub invariant-loop-ctxt : goal.invariant-loop-ctxt
invariant-loop-ctxt l = l.meetings ++ meet l.name (drop l.ctxt-index l.ctxt-items) ≡ l.fn.meetings ++ meet l.name l.ctxts
