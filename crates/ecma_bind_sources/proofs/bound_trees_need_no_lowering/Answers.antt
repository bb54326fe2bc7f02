use Rattle.ecma_bind_sources.proofs.Taken.{trees_need_no_lowering}
use Rattle.ecma_bind_sources.proofs.bound_trees_need_no_lowering.Goals as goal

pub returns : goal.returns
returns c = trees_need_no_lowering
