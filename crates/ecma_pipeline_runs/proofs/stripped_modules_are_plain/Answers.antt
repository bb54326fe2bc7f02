use Rattle.ecma_pipeline_runs.proofs.PlainModules as law
use Rattle.ecma_pipeline_runs.proofs.stripped_modules_are_plain.Goals as goal

pub returns : goal.returns
returns c = law.modules-are-plain
