use Rattle.ecma_bind_fits.proofs.Whole.{names_fit}
use Rattle.ecma_bind_fits.proofs.bound_names_fit.Goals as goal

pub returns : goal.returns
returns c = names_fit
