use Rattle.ecma_enclose_runs.proofs.Opened.{run_alike}
use Rattle.ecma_enclose_runs.proofs.enclosed_trees_run_alike.Goals as goal

pub returns : goal.returns
returns c = run_alike
