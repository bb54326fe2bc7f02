use Rattle.ecma_judge_runs.proofs.Laws as law
use Rattle.ecma_judge_runs.proofs.pure_calls_are_still.Goals as goal

pub returns : goal.returns
returns c = law.pure_calls_are_still
