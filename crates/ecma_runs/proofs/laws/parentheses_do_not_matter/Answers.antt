use Rattle.ecma_runs.proofs.Parentheses as law
use Rattle.ecma_runs.proofs.laws.parentheses_do_not_matter.Goals as goal

pub returns : goal.returns
returns c = law.parentheses_do_not_matter
