use Rattle.ecma_run_places.proofs.Laws as law
use Rattle.ecma_run_places.proofs.hosts_see_no_places.Goals as goal

pub returns : goal.returns
returns c = law.hosts_see_no_places
