use Rattle.ecma_lower_sources.proofs.Keeping.{lowering_keeps_plain_targets}
use Rattle.ecma_lower_sources.proofs.lowering_keeps_plain_targets.Goals as goal

pub returns : goal.returns
returns c = lowering_keeps_plain_targets
