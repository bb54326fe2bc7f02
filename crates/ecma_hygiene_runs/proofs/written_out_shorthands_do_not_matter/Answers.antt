use Rattle.ecma_hygiene_runs.proofs.WritingOut as law
use Rattle.ecma_hygiene_runs.proofs.written_out_shorthands_do_not_matter.Goals as goal

pub returns : goal.returns
returns c = law.written_out_shorthands_do_not_matter
