use Rattle.ecma_elide.proofs.Sorting.{elided_modules_are_sorted}
use Rattle.ecma_elide.proofs.laws.elided_modules_are_sorted.Goals as goal

pub returns : goal.returns
returns c = elided_modules_are_sorted
