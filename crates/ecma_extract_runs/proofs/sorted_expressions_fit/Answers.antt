use Rattle.ecma_extract_runs.proofs.Laws as law
use Rattle.ecma_extract_runs.proofs.sorted_expressions_fit.Goals as goal

pub returns : goal.returns
returns c = law.sorted_expressions_fit
