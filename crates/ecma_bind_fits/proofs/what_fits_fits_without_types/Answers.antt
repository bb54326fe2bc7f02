use Rattle.ecma_bind_fits.proofs.Whole.{fit_without_types}
use Rattle.ecma_bind_fits.proofs.what_fits_fits_without_types.Goals as goal

pub returns : goal.returns
returns c = fit_without_types
