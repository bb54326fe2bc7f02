use Rattle.std.proofs.Common.{◌≡◌, Bool}
use Rattle.ecma_rules.specs.Failing.{first_failing, least}
use Rattle.ecma_rules.proofs.Failures.{rest_failing}
use Rattle.ecma_tree.proofs.Weights.{weight}
use Rattle.ecma_forms.specs.Forms.{gone_inside, untaken_here}
use Rattle.ecma_forms.proofs.places.+first_in.Given as goal

-- what was found, and what the other children have
abbrev pub invariant-loop-i : goal.invariant-loop-i
invariant-loop-i l =
    least l.found (rest_failing Bool (untaken_here l.assign) gone_inside l.gone l.tree l.i) ≡ first_failing Bool (untaken_here l.assign) gone_inside l.tree l.gone

abbrev pub decreases-first_in : goal.decreases-first_in
decreases-first_in l = weight l.tree.now
