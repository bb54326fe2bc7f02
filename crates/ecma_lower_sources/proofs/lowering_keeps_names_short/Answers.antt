use Rattle.ecma_lower_sources.proofs.Keeping.{lowering_keeps_names_short}
use Rattle.ecma_lower_sources.proofs.lowering_keeps_names_short.Goals as goal

pub returns : goal.returns
returns c = lowering_keeps_names_short
