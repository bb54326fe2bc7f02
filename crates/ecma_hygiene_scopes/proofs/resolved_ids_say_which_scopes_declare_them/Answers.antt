use Rattle.ecma_hygiene_scopes.proofs.ResolvedModules.{resolved-is-right}
use Rattle.ecma_hygiene_scopes.proofs.resolved_ids_say_which_scopes_declare_them.Goals as goal

pub returns : goal.returns
returns c = resolved-is-right
