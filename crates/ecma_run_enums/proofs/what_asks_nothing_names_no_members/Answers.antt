use Rattle.ecma_run_enums.proofs.Laws as law
use Rattle.ecma_run_enums.proofs.what_asks_nothing_names_no_members.Goals as goal

pub returns : goal.returns
returns c = law.what_asks_nothing_names_no_members
