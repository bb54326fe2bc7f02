use Rattle.ecma_text_plain.proofs.PlainTrees.{read_items}
use Rattle.ecma_text_plain.proofs.plain_modules_that_are_read_have_plain_items.Goals as goal

pub returns : goal.returns
returns c = read_items c.modules_that_are_read_are_sorted.ensures
