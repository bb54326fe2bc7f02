use Rattle.ecma_run_laws.proofs.Exchanging as law
use Rattle.ecma_run_laws.proofs.equal_expressions_may_stand_for_each_other.Goals as goal

pub returns : goal.returns
returns c = law.equal_expressions_may_stand_for_each_other
