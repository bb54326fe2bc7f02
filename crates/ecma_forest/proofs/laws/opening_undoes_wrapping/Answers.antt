use Rattle.ecma_forest.proofs.Opening.{opening-undoes}
use Rattle.ecma_forest.proofs.laws.opening_undoes_wrapping.Goals as goal

pub returns : goal.returns
returns c = opening-undoes
