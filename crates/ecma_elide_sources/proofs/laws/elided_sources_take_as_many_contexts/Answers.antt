use Rattle.ecma_elide_sources.proofs.Counts.{sources_take_as_many}
use Rattle.ecma_elide_sources.proofs.laws.elided_sources_take_as_many_contexts.Goals as goal

pub returns : goal.returns
returns c = sources_take_as_many
