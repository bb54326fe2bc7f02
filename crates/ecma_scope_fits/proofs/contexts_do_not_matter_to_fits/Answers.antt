use Rattle.ecma_scope_fits.proofs.contexts_do_not_matter_to_fits.Goals as goal
use Rattle.ecma_scope_fits.proofs.Contexts.{contexts_do_not_matter, equal_fit_alike, resolved_fit_alike}

pub returns-clause-any : goal.returns-clause-any
returns-clause-any c = contexts_do_not_matter

pub returns-clause-equal : goal.returns-clause-equal
returns-clause-equal c = equal_fit_alike

pub returns-clause-resolved : goal.returns-clause-resolved
returns-clause-resolved c = resolved_fit_alike
