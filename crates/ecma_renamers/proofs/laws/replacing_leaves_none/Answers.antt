use Rattle.ecma_renamers.proofs.Leaving.{replacing_leaves}
use Rattle.ecma_renamers.proofs.laws.replacing_leaves_none.Goals as goal

pub returns : goal.returns
returns c = replacing_leaves
