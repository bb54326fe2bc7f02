use Rattle.ecma_judge_runs.proofs.OfModules as law
use Rattle.ecma_judge_runs.proofs.sorted_expressions_are_valued.Goals as goal

pub returns : goal.returns
returns c = law.sorted_expressions_are_valued
