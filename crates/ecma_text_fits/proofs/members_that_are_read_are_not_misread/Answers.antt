use Rattle.ecma_text_fits.proofs.Shapes.{read_members}
use Rattle.ecma_text_fits.proofs.members_that_are_read_are_not_misread.Goals as goal

pub returns : goal.returns
returns c = read_members c.trees_that_are_read_keep_rules.ensures
