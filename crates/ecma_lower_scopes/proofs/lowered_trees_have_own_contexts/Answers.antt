use Rattle.ecma_lower_scopes.proofs.Contexts.{lowered_trees_have_own_contexts}
use Rattle.ecma_lower_scopes.proofs.lowered_trees_have_own_contexts.Goals as goal

pub returns : goal.returns
returns c = lowered_trees_have_own_contexts
