use Rattle.ecma_judge_runs.proofs.OfModules as law
use Rattle.ecma_judge_runs.proofs.what_is_a_pure_number_in_modules_is_still.Goals as goal

pub returns : goal.returns
returns c = law.what_is_a_pure_number_in_modules_is_still
