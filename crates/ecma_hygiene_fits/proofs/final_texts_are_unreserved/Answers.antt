use Rattle.ecma_hygiene_fits.proofs.final_texts_are_unreserved.Goals as goal
use Rattle.ecma_hygiene_fits.proofs.Numbered.{texts_unreserved}

pub returns : goal.returns
returns c = texts_unreserved
