use Rattle.std.proofs.Common.{◌≡◌, ◌++◌, drop}
use Rattle.ecma_hygiene.specs.Ids.{soughts_in}
use Rattle.ecma_hygiene.proofs.soughts.push_soughts_in.Given as goal

-- what is there, and what the others come to
abbrev pub invariant-loop-sought : goal.invariant-loop-sought
invariant-loop-sought l = l.inner ++ soughts_in (drop l.sought-index l.sought-items) l.node l.index ≡ l.fn.inner ++ soughts_in l.soughts l.node l.index
