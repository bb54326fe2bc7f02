use Rattle.ecma_bind_sources.proofs.Sources.{sources_are_sources}
use Rattle.ecma_bind_sources.proofs.bound_sources_are_sources.Goals as goal

pub returns : goal.returns
returns c = sources_are_sources
