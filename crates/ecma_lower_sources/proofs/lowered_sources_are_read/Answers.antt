use Rattle.ecma_lower_sources.proofs.Keeping.{lowered_sources_are_read}
use Rattle.ecma_lower_sources.proofs.lowered_sources_are_read.Goals as goal

pub returns : goal.returns
returns c = lowered_sources_are_read
