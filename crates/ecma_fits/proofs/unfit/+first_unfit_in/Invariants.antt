use Rattle.std.proofs.Common.{◌≡◌}
use Rattle.ecma_rules.specs.Failing.{least}
use Rattle.ecma_rules.proofs.Failures.{rest_failing}
use Rattle.ecma_tree.proofs.Weights.{weight}
use Rattle.ecma_fits.specs.declared.unfit.Where.{Where}
use Rattle.ecma_fits.specs.Fitting.{first_unfit_in, unfit_here, where_in}
use Rattle.ecma_fits.proofs.unfit.+first_unfit_in.Given as goal

-- what was found, and what the other children have
abbrev pub invariant-loop-i : goal.invariant-loop-i
invariant-loop-i l = least l.found (rest_failing Where unfit_here where_in l.place l.node l.i) ≡ first_unfit_in l.node l.place

abbrev pub decreases-first_unfit_in : goal.decreases-first_unfit_in
decreases-first_unfit_in l = weight l.node.now
