use Rattle.ecma_text_plain.proofs.WholeModules.{read_names}
use Rattle.ecma_text_plain.proofs.plain_names_that_are_read_are_not_this.Goals as goal

pub returns : goal.returns
returns c = read_names c.modules_that_are_read_are_sorted.ensures
