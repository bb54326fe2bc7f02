use Rattle.ecma_enclose_fits.proofs.Whole.{trees_fit}
use Rattle.ecma_enclose_fits.proofs.enclosed_trees_fit.Goals as goal

pub returns : goal.returns
returns c = trees_fit
