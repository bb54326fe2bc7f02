use Rattle.ecma_print_parentheses.proofs.Adding as law
use Rattle.ecma_print_parentheses.proofs.only_parentheses_are_added.Goals as goal

pub returns : goal.returns
returns c = law.only_parentheses_are_added
