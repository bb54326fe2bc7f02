use Rattle.ecma_hygiene_exists.proofs.Existing.{texts-exist}
use Rattle.ecma_hygiene_exists.proofs.final_texts_exist.Goals as goal

pub returns : goal.returns
returns c = texts-exist
