use Rattle.ecma_lower_refusals.proofs.Enclosed.{trees_are_refused_alike}
use Rattle.ecma_lower_refusals.proofs.enclosed_trees_are_refused_alike.Goals as goal

pub returns : goal.returns
returns c = trees_are_refused_alike
