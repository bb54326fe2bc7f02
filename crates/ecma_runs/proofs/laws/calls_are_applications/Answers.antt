use Rattle.ecma_runs.proofs.Depth as law
use Rattle.ecma_runs.proofs.laws.calls_are_applications.Goals as goal

pub returns : goal.returns
returns c = law.calls_are_applications
