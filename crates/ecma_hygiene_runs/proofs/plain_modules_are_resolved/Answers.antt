use Rattle.ecma_hygiene_runs.proofs.Declaring as law
use Rattle.ecma_hygiene_runs.proofs.plain_modules_are_resolved.Goals as goal

pub returns : goal.returns
returns c = law.plain_modules_are_resolved
