use Rattle.ecma_enclose_sources.proofs.Read.{trees_are_read}
use Rattle.ecma_enclose_sources.proofs.enclosed_trees_are_read.Goals as goal

pub returns : goal.returns
returns c = trees_are_read c.enclosed_trees_fit.ensures
