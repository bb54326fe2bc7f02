use Rattle.ecma_elide_sources.proofs.Sources.{sources_are_read}
use Rattle.ecma_elide_sources.proofs.laws.elided_sources_are_read.Goals as goal

pub returns : goal.returns
returns c = sources_are_read
