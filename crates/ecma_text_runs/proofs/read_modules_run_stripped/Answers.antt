use Rattle.ecma_text_runs.proofs.Stripped as law
use Rattle.ecma_text_runs.proofs.read_modules_run_stripped.Goals as goal

pub returns : goal.returns
returns c = law.runs_stripped
