use Rattle.ecma_text_fits.proofs.Read.{read_spelled}
use Rattle.ecma_text_fits.proofs.leaves_that_are_read_are_spelled.Goals as goal

pub returns : goal.returns
returns c = read_spelled c.modules_that_are_read_are_sorted.ensures c.raw_modules_have_their_roles.ensures
