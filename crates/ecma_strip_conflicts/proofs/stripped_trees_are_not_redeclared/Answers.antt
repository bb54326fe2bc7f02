use Rattle.ecma_strip_conflicts.proofs.Walk.{stripped-not-redeclared}
use Rattle.ecma_strip_conflicts.proofs.stripped_trees_are_not_redeclared.Goals as goal

pub returns : goal.returns
returns c = stripped-not-redeclared
