use Rattle.ecma_hygiene_exists.proofs.Determined.{texts-are-unique}
use Rattle.ecma_hygiene_exists.proofs.final_texts_are_unique.Goals as goal

pub returns : goal.returns
returns c = texts-are-unique
