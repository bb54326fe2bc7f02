use Rattle.ecma_hygiene_fits.proofs.final_texts_keep_spelled_leaves.Goals as goal
use Rattle.ecma_hygiene_fits.proofs.Spelled.{spelling_kept}
use Rattle.ecma_hygiene_fits.proofs.SpelledNames.{hygiene_spelled}

pub returns-clause-texts : goal.returns-clause-texts
returns-clause-texts c = spelling_kept

pub returns-clause-hygienic : goal.returns-clause-hygienic
returns-clause-hygienic c = hygiene_spelled
