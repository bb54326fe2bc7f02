use Rattle.ecma_scope_congruence.proofs.Resolved as law
use Rattle.ecma_scope_congruence.proofs.spans_do_not_matter_to_contexts.Goals as goal

pub returns : goal.returns
returns c = law.spans_do_not_matter_to_contexts
