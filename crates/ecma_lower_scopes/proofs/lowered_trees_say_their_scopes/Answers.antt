use Rattle.ecma_lower_scopes.proofs.Contexts.{lowered_trees_say_their_scopes}
use Rattle.ecma_lower_scopes.proofs.lowered_trees_say_their_scopes.Goals as goal

pub returns : goal.returns
returns c = lowered_trees_say_their_scopes
