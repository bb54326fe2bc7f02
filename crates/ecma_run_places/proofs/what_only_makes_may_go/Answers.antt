use Rattle.ecma_run_places.proofs.Laws as law
use Rattle.ecma_run_places.proofs.what_only_makes_may_go.Goals as goal

pub returns : goal.returns
returns c = law.what_only_makes_may_go
