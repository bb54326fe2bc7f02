use Rattle.ecma_lower_runs.proofs.Runs.{lowered_trees_declare_alike}
use Rattle.ecma_lower_runs.proofs.lowered_trees_declare_alike.Goals as goal

pub returns : goal.returns
returns c = lowered_trees_declare_alike
