use Rattle.ecma_lower_enums_fits.proofs.Fit.{lowered_enums_fit}
use Rattle.ecma_lower_enums_fits.proofs.lowered_enums_fit.Goals as goal

pub returns : goal.returns
returns c = lowered_enums_fit
