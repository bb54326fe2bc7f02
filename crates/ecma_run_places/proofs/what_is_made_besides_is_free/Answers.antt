use Rattle.ecma_run_places.proofs.Laws as law
use Rattle.ecma_run_places.proofs.what_is_made_besides_is_free.Goals as goal

pub returns : goal.returns
returns c = law.what_is_made_besides_is_free
