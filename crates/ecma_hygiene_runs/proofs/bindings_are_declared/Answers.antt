use Rattle.ecma_hygiene_runs.proofs.Declaring as law
use Rattle.ecma_hygiene_runs.proofs.bindings_are_declared.Goals as goal

pub returns : goal.returns
returns c = law.bindings_are_declared
