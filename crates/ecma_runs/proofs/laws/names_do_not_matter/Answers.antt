use Rattle.ecma_runs.proofs.Renaming as law
use Rattle.ecma_runs.proofs.laws.names_do_not_matter.Goals as goal

pub returns : goal.returns
returns c = law.names_do_not_matter
