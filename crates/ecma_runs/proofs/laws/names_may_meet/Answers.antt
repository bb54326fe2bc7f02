use Rattle.ecma_runs.proofs.Meeting as law
use Rattle.ecma_runs.proofs.laws.names_may_meet.Goals as goal

pub returns : goal.returns
returns c = law.names_may_meet
