use Rattle.ecma_judge_runs.proofs.Laws as law
use Rattle.ecma_judge_runs.proofs.contexts_apply_functions.Goals as goal

pub returns : goal.returns
returns c = law.contexts_apply_functions
