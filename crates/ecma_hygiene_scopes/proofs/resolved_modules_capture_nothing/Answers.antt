use Rattle.ecma_hygiene_scopes.proofs.ResolvedModules.{resolved-captures-nothing}
use Rattle.ecma_hygiene_scopes.proofs.resolved_modules_capture_nothing.Goals as goal

pub returns : goal.returns
returns c = resolved-captures-nothing
