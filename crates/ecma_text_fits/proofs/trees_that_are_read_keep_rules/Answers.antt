use Rattle.ecma_text_fits.proofs.Read.{read_keeps}
use Rattle.ecma_text_fits.proofs.trees_that_are_read_keep_rules.Goals as goal

pub returns : goal.returns
returns c = read_keeps c.modules_that_are_read_are_sorted.ensures
