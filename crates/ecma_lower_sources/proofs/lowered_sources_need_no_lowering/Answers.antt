use Rattle.ecma_lower_sources.proofs.Lowering.{lowered_sources_need_no_lowering}
use Rattle.ecma_lower_sources.proofs.lowered_sources_need_no_lowering.Goals as goal

pub returns : goal.returns
returns c = lowered_sources_need_no_lowering
