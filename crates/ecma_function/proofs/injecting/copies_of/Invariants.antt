use Rattle.std.proofs.Common.{◌≡◌, take}
use Rattle.ecma_function.proofs.injecting.copies_of.Given as goal

-- those so far are copied
abbrev pub invariant-loop-e : goal.invariant-loop-e
invariant-loop-e l = l.copies ≡ take l.e-index l.exprs
