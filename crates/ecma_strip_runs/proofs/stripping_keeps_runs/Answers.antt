use Rattle.ecma_strip_runs.proofs.Steps as law
use Rattle.ecma_strip_runs.proofs.stripping_keeps_runs.Goals as goal

pub returns : goal.returns
returns c = law.stripping_keeps_runs
