use Rattle.ecma_elide.proofs.Quiet.{trees_without_stay}
use Rattle.ecma_elide.proofs.laws.trees_without_imports_and_exports_stay.Goals as goal

pub returns : goal.returns
returns c = trees_without_stay
