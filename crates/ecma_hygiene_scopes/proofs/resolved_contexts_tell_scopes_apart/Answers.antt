use Rattle.ecma_hygiene_scopes.proofs.ResolvedApart.{resolved-tells-apart}
use Rattle.ecma_hygiene_scopes.proofs.resolved_contexts_tell_scopes_apart.Goals as goal

pub returns : goal.returns
returns c = resolved-tells-apart
