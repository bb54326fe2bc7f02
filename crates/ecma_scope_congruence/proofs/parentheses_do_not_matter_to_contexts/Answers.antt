use Rattle.ecma_scope_congruence.proofs.ExplicitContexts as law
use Rattle.ecma_scope_congruence.proofs.parentheses_do_not_matter_to_contexts.Goals as goal

pub returns : goal.returns
returns c = law.parentheses_do_not_matter_to_contexts
