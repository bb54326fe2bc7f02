use Rattle.ecma_hygiene_fits.proofs.final_texts_are_spelled.Goals as goal
use Rattle.ecma_hygiene_fits.proofs.SpelledNames.{final_texts_readable, final_texts_short, final_texts_spelled}

pub returns-clause-spelled : goal.returns-clause-spelled
returns-clause-spelled c = final_texts_spelled

pub returns-clause-short : goal.returns-clause-short
returns-clause-short c = final_texts_short

pub returns-clause-readable : goal.returns-clause-readable
returns-clause-readable c = final_texts_readable
