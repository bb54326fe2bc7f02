use Rattle.ecma_run_constructions.proofs.Laws as law
use Rattle.ecma_run_constructions.proofs.constructions_give_objects.Goals as goal

pub returns : goal.returns
returns c = law.constructions_give_objects
