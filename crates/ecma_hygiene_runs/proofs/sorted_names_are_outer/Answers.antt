use Rattle.ecma_hygiene_runs.proofs.Sorted as law
use Rattle.ecma_hygiene_runs.proofs.sorted_names_are_outer.Goals as goal

pub returns : goal.returns
returns c = law.sorted_names_are_outer
