use Rattle.ecma_elide_sources.proofs.Sources.{sources_are_taken}
use Rattle.ecma_elide_sources.proofs.laws.elided_sources_are_taken.Goals as goal

pub returns : goal.returns
returns c = sources_are_taken
