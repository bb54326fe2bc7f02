use Rattle.ecma_text_fits.proofs.Shapes.{read_linked}
use Rattle.ecma_text_fits.proofs.links_that_are_read_are_not_loose.Goals as goal

pub returns : goal.returns
returns c = read_linked c.trees_that_are_read_keep_rules.ensures
