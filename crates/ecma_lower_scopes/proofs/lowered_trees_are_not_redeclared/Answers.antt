use Rattle.ecma_lower_scopes.proofs.Declared.{lowered_trees_are_not_redeclared}
use Rattle.ecma_lower_scopes.proofs.lowered_trees_are_not_redeclared.Goals as goal

pub returns : goal.returns
returns c = lowered_trees_are_not_redeclared
