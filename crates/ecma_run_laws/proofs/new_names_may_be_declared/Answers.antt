use Rattle.ecma_run_laws.proofs.Declaring as law
use Rattle.ecma_run_laws.proofs.new_names_may_be_declared.Goals as goal

pub returns : goal.returns
returns c = law.new_names_may_be_declared
