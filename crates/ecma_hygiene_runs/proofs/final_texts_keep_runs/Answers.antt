use Rattle.ecma_hygiene_runs.proofs.FinalRuns as law
use Rattle.ecma_hygiene_runs.proofs.final_texts_keep_runs.Goals as goal

pub returns : goal.returns
returns c = law.final_texts_keep_runs
