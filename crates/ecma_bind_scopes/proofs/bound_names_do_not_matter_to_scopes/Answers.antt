use Rattle.ecma_bind_scopes.proofs.Placed.{resolve_alike}
use Rattle.ecma_bind_scopes.proofs.Told.{declare_alike}
use Rattle.ecma_bind_scopes.proofs.bound_names_do_not_matter_to_scopes.Goals as goal

pub returns-clause-contexts : goal.returns-clause-contexts
returns-clause-contexts c = resolve_alike

pub returns-clause-conflicts : goal.returns-clause-conflicts
returns-clause-conflicts c = declare_alike
