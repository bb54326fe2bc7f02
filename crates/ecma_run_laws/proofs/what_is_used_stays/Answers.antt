use Rattle.ecma_run_laws.proofs.Declaring as law
use Rattle.ecma_run_laws.proofs.what_is_used_stays.Goals as goal

pub returns : goal.returns
returns c = law.what_is_used_stays
