use Rattle.ecma_enclose_scopes.proofs.Counted.{take_as_many}
use Rattle.ecma_enclose_scopes.proofs.Told.{declare_alike}
use Rattle.ecma_enclose_scopes.proofs.enclosed_trees_scope_alike.Goals as goal

pub returns-clause-contexts : goal.returns-clause-contexts
returns-clause-contexts c = take_as_many

pub returns-clause-conflicts : goal.returns-clause-conflicts
returns-clause-conflicts c = declare_alike
