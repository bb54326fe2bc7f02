use Rattle.ecma_elide_fits.proofs.Elided.{elided_trees_fit}
use Rattle.ecma_elide_fits.proofs.elided_trees_fit.Goals as goal

pub returns : goal.returns
returns c = elided_trees_fit
