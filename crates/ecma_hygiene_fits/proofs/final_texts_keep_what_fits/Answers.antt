use Rattle.ecma_hygiene_fits.proofs.final_texts_keep_what_fits.Goals as goal
use Rattle.ecma_hygiene_fits.proofs.FitsKept.{fits_kept, hygiene_fits}

pub returns-clause-texts : goal.returns-clause-texts
returns-clause-texts c = fits_kept

pub returns-clause-hygienic : goal.returns-clause-hygienic
returns-clause-hygienic c = hygiene_fits
