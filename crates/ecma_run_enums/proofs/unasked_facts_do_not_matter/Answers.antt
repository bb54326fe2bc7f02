use Rattle.ecma_run_enums.proofs.Laws as law
use Rattle.ecma_run_enums.proofs.unasked_facts_do_not_matter.Goals as goal

pub returns : goal.returns
returns c = law.unasked_facts_do_not_matter
