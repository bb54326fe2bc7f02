use Rattle.ecma_hygiene_runs.proofs.FinalRuns as law
use Rattle.ecma_hygiene_runs.proofs.reading_again_keeps_runs.Goals as goal

pub returns : goal.returns
returns c = law.reading_again_keeps_runs
