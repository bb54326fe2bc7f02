use Rattle.ecma_hygiene_runs.proofs.WritingOut as law
use Rattle.ecma_hygiene_runs.proofs.shorthands_do_not_matter.Goals as goal

pub returns : goal.returns
returns c = law.shorthands_do_not_matter
