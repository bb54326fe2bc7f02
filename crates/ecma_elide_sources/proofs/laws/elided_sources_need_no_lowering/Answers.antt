use Rattle.ecma_elide_sources.proofs.Sources.{sources_need_no_lowering}
use Rattle.ecma_elide_sources.proofs.laws.elided_sources_need_no_lowering.Goals as goal

pub returns : goal.returns
returns c = sources_need_no_lowering
