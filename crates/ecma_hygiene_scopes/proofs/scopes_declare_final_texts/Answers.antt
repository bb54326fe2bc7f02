use Rattle.ecma_hygiene_scopes.proofs.Scoping.{scopes-declare}
use Rattle.ecma_hygiene_scopes.proofs.scopes_declare_final_texts.Goals as goal

pub returns : goal.returns
returns c = scopes-declare
