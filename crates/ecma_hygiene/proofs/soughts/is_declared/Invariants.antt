use Rattle.std.proofs.Common.{◌≡◌, drop}
use Rattle.std.specs.List.{list_any}
use Rattle.ecma_hygiene.specs.Ids.{declares}
use Rattle.ecma_hygiene.proofs.soughts.is_declared.Given as goal

-- the others decide
abbrev pub invariant-loop-sought : goal.invariant-loop-sought
invariant-loop-sought l = list_any declares (drop l.sought-index l.sought-items) ≡ list_any declares l.soughts
