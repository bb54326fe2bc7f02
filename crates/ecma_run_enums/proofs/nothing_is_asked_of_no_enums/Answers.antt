use Rattle.ecma_run_enums.proofs.Laws as law
use Rattle.ecma_run_enums.proofs.nothing_is_asked_of_no_enums.Goals as goal

pub returns : goal.returns
returns c = law.nothing_is_asked_of_no_enums
