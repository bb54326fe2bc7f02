use Rattle.ecma_run_places.proofs.Laws as law
use Rattle.ecma_run_places.proofs.names_may_be_read_for_nothing.Goals as goal

pub returns : goal.returns
returns c = law.names_may_be_read_for_nothing
