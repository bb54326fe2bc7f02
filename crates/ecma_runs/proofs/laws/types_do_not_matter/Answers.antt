use Rattle.ecma_runs.proofs.Types as law
use Rattle.ecma_runs.proofs.laws.types_do_not_matter.Goals as goal

pub returns : goal.returns
returns c = law.types_do_not_matter
