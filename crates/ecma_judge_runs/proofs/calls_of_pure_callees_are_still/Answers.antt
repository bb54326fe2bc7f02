use Rattle.ecma_judge_runs.proofs.Laws as law
use Rattle.ecma_judge_runs.proofs.calls_of_pure_callees_are_still.Goals as goal

pub returns : goal.returns
returns c = law.calls_of_pure_callees_are_still
