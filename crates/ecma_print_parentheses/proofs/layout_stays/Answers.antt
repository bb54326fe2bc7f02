use Rattle.ecma_print_parentheses.proofs.Laying as law
use Rattle.ecma_print_parentheses.proofs.layout_stays.Goals as goal

pub returns : goal.returns
returns c = law.layout_stays
