use Rattle.ecma_run_enums.proofs.Laws as law
use Rattle.ecma_run_enums.proofs.no_names_are_no_members.Goals as goal

pub returns : goal.returns
returns c = law.no_names_are_no_members
