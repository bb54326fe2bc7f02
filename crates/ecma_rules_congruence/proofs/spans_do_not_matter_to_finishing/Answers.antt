use Rattle.ecma_rules_congruence.proofs.Finishing as law
use Rattle.ecma_rules_congruence.proofs.spans_do_not_matter_to_finishing.Goals as goal

pub returns : goal.returns
returns c = law.spans_do_not_matter_to_finishing
