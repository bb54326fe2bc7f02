use Rattle.ecma_hygiene_scopes.proofs.Seeing.{contexts-are-mapped}
use Rattle.ecma_hygiene_scopes.proofs.contexts_are_mapped_one_to_one.Goals as goal

pub returns : goal.returns
returns c = contexts-are-mapped
