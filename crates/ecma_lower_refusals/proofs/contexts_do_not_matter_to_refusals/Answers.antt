use Rattle.ecma_lower_refusals.proofs.Contexts.{contexts_do_not_matter}
use Rattle.ecma_lower_refusals.proofs.contexts_do_not_matter_to_refusals.Goals as goal

pub returns : goal.returns
returns c = contexts_do_not_matter
