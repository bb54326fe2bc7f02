use Rattle.ecma_enclose_sources.proofs.Taken.{trees_need_no_lowering}
use Rattle.ecma_enclose_sources.proofs.enclosed_trees_need_no_lowering.Goals as goal

pub returns : goal.returns
returns c = trees_need_no_lowering
