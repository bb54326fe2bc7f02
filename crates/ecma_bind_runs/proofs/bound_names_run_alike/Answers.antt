use Rattle.ecma_bind_runs.proofs.Runs.{runs_alike}
use Rattle.ecma_bind_runs.proofs.bound_names_run_alike.Goals as goal

pub returns : goal.returns
returns c = runs_alike
