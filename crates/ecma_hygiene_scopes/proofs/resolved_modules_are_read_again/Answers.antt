use Rattle.ecma_hygiene_scopes.proofs.ResolvedModules.{resolved-is-read-again}
use Rattle.ecma_hygiene_scopes.proofs.resolved_modules_are_read_again.Goals as goal

pub returns : goal.returns
returns c = resolved-is-read-again
