use Rattle.ecma_judge_runs.proofs.Laws as law
use Rattle.ecma_judge_runs.proofs.classes_without_effects_are_still.Goals as goal

pub returns : goal.returns
returns c = law.classes_without_effects_are_still
