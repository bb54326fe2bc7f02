use Rattle.ecma_elide_fits.proofs.FitsKept.{fits_without_items}
use Rattle.ecma_elide_fits.proofs.what_fits_fits_without_items.Goals as goal

pub returns : goal.returns
returns g c = fits_without_items _
