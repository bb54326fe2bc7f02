use Rattle.ecma_bind_sources.proofs.Read.{trees_are_read}
use Rattle.ecma_bind_sources.proofs.bound_trees_are_read.Goals as goal

pub returns : goal.returns
returns c = trees_are_read c.bound_names_fit.ensures
