use Rattle.ecma_lower_enums_fits.proofs.Fit.{written_enums_fit}
use Rattle.ecma_lower_enums_fits.proofs.written_enums_fit.Goals as goal

pub returns : goal.returns
returns c = written_enums_fit
