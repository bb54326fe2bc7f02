use Rattle.ecma_pipeline_runs.proofs.ClearSeats as law
use Rattle.ecma_pipeline_runs.proofs.modules_are_clear.Goals as goal

pub returns : goal.returns
returns c = law.modules-are-clear
