use Rattle.ecma_text_plain.proofs.PlainTrees.{read_plain}
use Rattle.ecma_text_plain.proofs.plain_trees_that_are_read_are_plain.Goals as goal

pub returns : goal.returns
returns c = read_plain c.modules_that_are_read_are_sorted.ensures
