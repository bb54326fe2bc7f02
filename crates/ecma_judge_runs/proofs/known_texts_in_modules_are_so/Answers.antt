use Rattle.ecma_judge_runs.proofs.OfModules as law
use Rattle.ecma_judge_runs.proofs.known_texts_in_modules_are_so.Goals as goal

pub returns : goal.returns
returns c = law.known_texts_in_modules_are_so
