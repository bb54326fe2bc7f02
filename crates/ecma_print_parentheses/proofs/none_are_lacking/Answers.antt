use Rattle.ecma_print_parentheses.proofs.Lacks as law
use Rattle.ecma_print_parentheses.proofs.none_are_lacking.Goals as goal

pub returns : goal.returns
returns c = law.none_are_lacking
