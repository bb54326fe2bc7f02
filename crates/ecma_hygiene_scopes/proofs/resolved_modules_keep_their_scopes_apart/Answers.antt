use Rattle.ecma_hygiene_scopes.proofs.ResolvedApart.{resolved-keeps-apart}
use Rattle.ecma_hygiene_scopes.proofs.resolved_modules_keep_their_scopes_apart.Goals as goal

pub returns : goal.returns
returns c = resolved-keeps-apart
