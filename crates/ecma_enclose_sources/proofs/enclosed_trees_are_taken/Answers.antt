use Rattle.ecma_enclose_sources.proofs.Taken.{trees_are_taken}
use Rattle.ecma_enclose_sources.proofs.enclosed_trees_are_taken.Goals as goal

pub returns : goal.returns
returns c = trees_are_taken
