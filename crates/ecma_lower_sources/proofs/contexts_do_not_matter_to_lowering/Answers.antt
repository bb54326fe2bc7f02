use Rattle.ecma_lower_sources.proofs.Contexts.{contexts_do_not_matter_to_lowering}
use Rattle.ecma_lower_sources.proofs.contexts_do_not_matter_to_lowering.Goals as goal

pub returns : goal.returns
returns c = contexts_do_not_matter_to_lowering
