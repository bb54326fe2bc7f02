use Rattle.ecma_run_places.proofs.Laws as law
use Rattle.ecma_run_places.proofs.places_do_not_matter.Goals as goal

pub returns : goal.returns
returns c = law.places_do_not_matter
