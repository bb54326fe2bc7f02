use Rattle.ecma_lower_runs.proofs.Runs.{lowered_trees_run_alike}
use Rattle.ecma_lower_runs.proofs.lowered_trees_run_alike.Goals as goal

pub returns : goal.returns
returns c = lowered_trees_run_alike
