use Rattle.ecma_rules_congruence.proofs.Rules as law
use Rattle.ecma_rules_congruence.proofs.spans_do_not_matter_to_rules.Goals as goal

pub returns : goal.returns
returns c = law.spans_do_not_matter_to_rules
