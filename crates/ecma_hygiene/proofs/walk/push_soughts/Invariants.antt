use Rattle.std.proofs.Common.{◌≡◌, ◌++◌, drop}
use Rattle.ecma_hygiene.proofs.walk.push_soughts.Given as goal

-- what is there, and the others
abbrev pub invariant-loop-sought : goal.invariant-loop-sought
invariant-loop-sought l = l.inner ++ drop l.sought-index l.sought-items ≡ l.fn.inner ++ l.soughts
