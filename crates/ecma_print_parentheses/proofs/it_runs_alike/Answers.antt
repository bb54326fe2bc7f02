use Rattle.ecma_print_parentheses.proofs.Running as law
use Rattle.ecma_print_parentheses.proofs.it_runs_alike.Goals as goal

pub returns : goal.returns
returns c = law.runs_alike c.parentheses_do_not_matter.ensures
