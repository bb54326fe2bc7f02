use Rattle.ecma_judge_runs.proofs.OfModules as law
use Rattle.ecma_judge_runs.proofs.classes_without_effects_in_modules_are_still.Goals as goal

pub returns : goal.returns
returns c = law.classes_without_effects_in_modules_are_still
