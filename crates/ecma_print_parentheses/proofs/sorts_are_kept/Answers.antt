use Rattle.ecma_print_parentheses.proofs.Sorting as law
use Rattle.ecma_print_parentheses.proofs.sorts_are_kept.Goals as goal

pub returns : goal.returns
returns c = law.sorts_are_kept
