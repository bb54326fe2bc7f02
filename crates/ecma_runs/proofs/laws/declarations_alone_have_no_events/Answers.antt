use Rattle.ecma_runs.proofs.Silence as law
use Rattle.ecma_runs.proofs.laws.declarations_alone_have_no_events.Goals as goal

pub returns : goal.returns
returns c = law.declarations_alone_have_no_events
