use Rattle.ecma_pipeline.proofs.Runs.{sources_run_alike}
use Rattle.ecma_pipeline.proofs.bound_sources_run_alike.Goals as goal

pub returns : goal.returns
returns c = sources_run_alike
