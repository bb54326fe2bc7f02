use Rattle.std.proofs.Common.{◌≡◌, drop}
use Rattle.ecma_hygiene.specs.Ids.{has_context}
use Rattle.ecma_hygiene.proofs.ids.has_context.Given as goal

-- the others decide
abbrev pub invariant-loop-other : goal.invariant-loop-other
invariant-loop-other l = has_context l.ctxt (drop l.other-index l.other-items) ≡ has_context l.ctxt l.ctxts
