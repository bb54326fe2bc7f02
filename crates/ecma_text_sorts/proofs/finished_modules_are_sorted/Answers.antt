use Rattle.ecma_text_sorts.proofs.Finished.{finished_sorted}
use Rattle.ecma_text_sorts.proofs.finished_modules_are_sorted.Goals as goal

pub returns : goal.returns
returns c = finished_sorted
