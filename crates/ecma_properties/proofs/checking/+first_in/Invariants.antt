use Rattle.std.proofs.Common.{◌≡◌}
use Rattle.ecma_rules.specs.Failing.{first_failing, least}
use Rattle.ecma_rules.proofs.Failures.{rest_failing}
use Rattle.ecma_tree.proofs.Weights.{weight}
use Rattle.ecma_properties.specs.declared.standing.Around.{Around}
use Rattle.ecma_properties.specs.Refusing.{refused_here}
use Rattle.ecma_properties.specs.Standing.{around_in}
use Rattle.ecma_properties.proofs.checking.+first_in.Given as goal

-- what was found, and what the other children have
abbrev pub invariant-loop-i : goal.invariant-loop-i
invariant-loop-i l =
    least l.found (rest_failing Around (refused_here l.rule) around_in l.around l.tree l.i) ≡ first_failing Around (refused_here l.rule) around_in l.tree l.around

abbrev pub decreases-first_in : goal.decreases-first_in
decreases-first_in l = weight l.tree.now
