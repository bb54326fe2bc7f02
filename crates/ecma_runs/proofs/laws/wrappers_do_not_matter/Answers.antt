use Rattle.ecma_runs.proofs.Layers as law
use Rattle.ecma_runs.proofs.laws.wrappers_do_not_matter.Goals as goal

pub returns : goal.returns
returns c = law.wrappers_do_not_matter
