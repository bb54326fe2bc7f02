use Rattle.ecma_extract_runs.proofs.Laws as law
use Rattle.ecma_extract_runs.proofs.preservation_of_expressions_keeps_effects.Goals as goal

pub returns : goal.returns
returns c = law.preservation_of_expressions_keeps_effects
