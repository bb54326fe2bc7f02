use Rattle.ecma_lower_sources.proofs.Lowering.{taken_trees_make_no_require}
use Rattle.ecma_lower_sources.proofs.taken_trees_make_no_require.Goals as goal

pub returns : goal.returns
returns c = taken_trees_make_no_require
