use Rattle.ecma_extract_runs.proofs.Laws as law
use Rattle.ecma_extract_runs.proofs.extraction_of_expressions_keeps_effects.Goals as goal

pub returns : goal.returns
returns c = law.extraction_of_expressions_keeps_effects
