use Rattle.ecma_judge_runs.proofs.OfModules as law
use Rattle.ecma_judge_runs.proofs.what_has_no_effects_in_modules_is_still.Goals as goal

pub returns : goal.returns
returns c = law.what_has_no_effects_in_modules_is_still
