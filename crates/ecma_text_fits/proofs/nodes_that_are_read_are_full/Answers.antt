use Rattle.ecma_text_fits.proofs.Shapes.{read_full}
use Rattle.ecma_text_fits.proofs.nodes_that_are_read_are_full.Goals as goal

pub returns : goal.returns
returns c = read_full c.trees_that_are_read_keep_rules.ensures
