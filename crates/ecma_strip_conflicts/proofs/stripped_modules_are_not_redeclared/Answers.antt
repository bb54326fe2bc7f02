use Rattle.ecma_strip_conflicts.proofs.Walk.{resolved-not-redeclared}
use Rattle.ecma_strip_conflicts.proofs.stripped_modules_are_not_redeclared.Goals as goal

pub returns : goal.returns
returns c = resolved-not-redeclared
