use Rattle.ecma_runs.proofs.Growing as law
use Rattle.ecma_runs.proofs.laws.events_only_grow.Goals as goal

pub returns : goal.returns
returns c = law.events_only_grow
