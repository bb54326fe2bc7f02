use Rattle.ecma_strip_runs.proofs.Sorted as law
use Rattle.ecma_strip_runs.proofs.only_types_go_from_modules.Goals as goal

pub returns : goal.returns
returns c = law.only_types_go_from_modules
