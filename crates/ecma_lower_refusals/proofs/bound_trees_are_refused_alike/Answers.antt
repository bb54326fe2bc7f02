use Rattle.ecma_lower_refusals.proofs.Bound.{trees_are_refused_alike}
use Rattle.ecma_lower_refusals.proofs.bound_trees_are_refused_alike.Goals as goal

pub returns : goal.returns
returns c = trees_are_refused_alike
