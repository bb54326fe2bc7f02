use Rattle.ecma_text_plain.proofs.WholeModules.{read_bodies}
use Rattle.ecma_text_plain.proofs.plain_functions_that_are_read_have_bodies.Goals as goal

pub returns : goal.returns
returns c = read_bodies c.modules_that_are_read_are_sorted.ensures
