use Rattle.ecma_run_laws.proofs.Unused as law
use Rattle.ecma_run_laws.proofs.unused_names_do_not_matter.Goals as goal

pub returns : goal.returns
returns c = law.unused_names_do_not_matter
