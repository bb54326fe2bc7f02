use Rattle.ecma_scope_congruence.proofs.ExplicitConflicts as law
use Rattle.ecma_scope_congruence.proofs.parentheses_do_not_matter_to_conflicts.Goals as goal

pub returns : goal.returns
returns c = law.parentheses_do_not_matter_to_conflicts
