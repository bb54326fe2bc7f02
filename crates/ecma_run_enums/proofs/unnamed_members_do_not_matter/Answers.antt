use Rattle.ecma_run_enums.proofs.Laws as law
use Rattle.ecma_run_enums.proofs.unnamed_members_do_not_matter.Goals as goal

pub returns : goal.returns
returns c = law.unnamed_members_do_not_matter
