use Rattle.ecma_run_places.proofs.Laws as law
use Rattle.ecma_run_places.proofs.calls_mind_no_places.Goals as goal

pub returns : goal.returns
returns c = law.calls_mind_no_places
