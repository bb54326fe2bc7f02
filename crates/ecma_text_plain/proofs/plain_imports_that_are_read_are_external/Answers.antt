use Rattle.ecma_text_plain.proofs.WholeModules.{read_imports}
use Rattle.ecma_text_plain.proofs.plain_imports_that_are_read_are_external.Goals as goal

pub returns : goal.returns
returns c = read_imports c.modules_that_are_read_are_sorted.ensures
