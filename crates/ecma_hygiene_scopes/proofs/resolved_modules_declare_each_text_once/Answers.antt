use Rattle.ecma_hygiene_scopes.proofs.ResolvedModules.{resolved-declares-each-once}
use Rattle.ecma_hygiene_scopes.proofs.resolved_modules_declare_each_text_once.Goals as goal

pub returns : goal.returns
returns c = resolved-declares-each-once
