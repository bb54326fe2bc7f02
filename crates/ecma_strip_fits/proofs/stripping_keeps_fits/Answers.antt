use Rattle.ecma_strip_fits.proofs.FitsKept.{fits_kept}
use Rattle.ecma_strip_fits.proofs.stripping_keeps_fits.Goals as goal

pub returns : goal.returns
returns c = fits_kept
