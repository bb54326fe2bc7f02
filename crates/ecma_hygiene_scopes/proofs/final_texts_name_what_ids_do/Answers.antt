use Rattle.ecma_hygiene_scopes.proofs.NamingAgain.{texts-name}
use Rattle.ecma_hygiene_scopes.proofs.final_texts_name_what_ids_do.Goals as goal

pub returns : goal.returns
returns c = texts-name
