use Rattle.ecma_hygiene_scopes.proofs.ResolvedModules.{resolved-follows-its-texts}
use Rattle.ecma_hygiene_scopes.proofs.resolved_modules_mean_what_their_texts_name.Goals as goal

pub returns : goal.returns
returns c = resolved-follows-its-texts
