use Rattle.ecma_text_sorts.proofs.Finished.{read_sorted}
use Rattle.ecma_text_sorts.proofs.modules_that_are_read_are_sorted.Goals as goal

pub returns : goal.returns
returns c = read_sorted
