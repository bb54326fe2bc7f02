use Rattle.ecma_print_parentheses.proofs.Lacks as law
use Rattle.ecma_print_parentheses.proofs.trees_that_lack_none_stay.Goals as goal

pub returns : goal.returns
returns c = law.trees_that_lack_none_stay
