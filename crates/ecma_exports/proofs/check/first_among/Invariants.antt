use Rattle.ecma_exports.proofs.Among.{none_before}
use Rattle.ecma_exports.proofs.check.first_among.Given as goal

-- none of the first i is among the others
abbrev pub invariant-loop-i : goal.invariant-loop-i
invariant-loop-i l = none_before l.others l.names l.i
