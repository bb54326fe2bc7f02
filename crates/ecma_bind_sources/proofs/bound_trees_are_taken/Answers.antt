use Rattle.ecma_bind_sources.proofs.Taken.{trees_are_taken}
use Rattle.ecma_bind_sources.proofs.bound_trees_are_taken.Goals as goal

pub returns : goal.returns
returns c = trees_are_taken
