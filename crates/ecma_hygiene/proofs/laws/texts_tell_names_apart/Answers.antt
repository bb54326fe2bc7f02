use Rattle.ecma_hygiene.proofs.Telling.{texts-tell-apart}
use Rattle.ecma_hygiene.proofs.laws.texts_tell_names_apart.Goals as goal

pub returns : goal.returns
returns c = texts-tell-apart
