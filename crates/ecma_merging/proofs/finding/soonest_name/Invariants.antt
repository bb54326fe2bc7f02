use Rattle.std.proofs.Common.{◌≡◌, Some}
use Rattle.ecma_merging.specs.Merging.{soonest}
use Rattle.ecma_merging.proofs.Soonest.{soonest_so_far}
use Rattle.ecma_merging.proofs.finding.soonest_name.Given as goal

-- the first of those asked so far is still to be compared with the others
abbrev pub invariant-loop-i : goal.invariant-loop-i
invariant-loop-i l = Some (soonest_so_far l.findings l.i l.first) ≡ soonest l.findings
