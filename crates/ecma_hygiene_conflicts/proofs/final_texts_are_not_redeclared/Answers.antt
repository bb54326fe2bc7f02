use Rattle.ecma_hygiene_conflicts.proofs.Walk.{final-not-redeclared}
use Rattle.ecma_hygiene_conflicts.proofs.final_texts_are_not_redeclared.Goals as goal

pub returns : goal.returns
returns c = final-not-redeclared
