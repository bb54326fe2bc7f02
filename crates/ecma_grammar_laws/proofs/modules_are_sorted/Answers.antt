use Rattle.ecma_grammar_laws.proofs.Sorted.{modules_sorted}
use Rattle.ecma_grammar_laws.proofs.modules_are_sorted.Goals as goal

pub returns : goal.returns
returns c = modules_sorted
