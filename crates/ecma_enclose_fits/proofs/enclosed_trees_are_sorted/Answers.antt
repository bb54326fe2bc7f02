use Rattle.ecma_enclose_fits.proofs.Whole.{trees_are_sorted}
use Rattle.ecma_enclose_fits.proofs.enclosed_trees_are_sorted.Goals as goal

pub returns : goal.returns
returns c = trees_are_sorted
