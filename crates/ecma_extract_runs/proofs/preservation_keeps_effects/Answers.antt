use Rattle.ecma_extract_runs.proofs.Laws as law
use Rattle.ecma_extract_runs.proofs.preservation_keeps_effects.Goals as goal

pub returns : goal.returns
returns c = law.preservation_keeps_effects
