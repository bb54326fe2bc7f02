use Rattle.ecma_judge_runs.proofs.OfModules as law
use Rattle.ecma_judge_runs.proofs.calls_of_pure_callees_in_modules_are_still.Goals as goal

pub returns : goal.returns
returns c = law.calls_of_pure_callees_in_modules_are_still
