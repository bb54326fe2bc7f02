use Rattle.ecma_runs.proofs.Layers as law
use Rattle.ecma_runs.proofs.laws.spare_turns_do_not_matter.Goals as goal

pub returns : goal.returns
returns c = law.spare_turns_do_not_matter
