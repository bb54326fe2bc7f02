use Rattle.ecma_scope_congruence.proofs.SpanConflicts as law
use Rattle.ecma_scope_congruence.proofs.spans_do_not_matter_to_conflicts.Goals as goal

pub returns : goal.returns
returns c = law.spans_do_not_matter_to_conflicts
