use Rattle.ecma_text_fits.proofs.Shapes.{read_branches}
use Rattle.ecma_text_fits.proofs.branches_that_are_read_take_their_else.Goals as goal

pub returns : goal.returns
returns c = read_branches c.trees_that_are_read_keep_rules.ensures
