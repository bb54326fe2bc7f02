use Rattle.ecma_elide_scopes.proofs.Freed.{elided_scopes_are_freed}
use Rattle.ecma_elide_scopes.proofs.elided_scopes_are_freed.Goals as goal

pub returns : goal.returns
returns c = elided_scopes_are_freed
