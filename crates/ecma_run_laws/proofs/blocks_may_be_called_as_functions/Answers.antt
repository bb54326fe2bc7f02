use Rattle.ecma_run_laws.proofs.Lowering as law
use Rattle.ecma_run_laws.proofs.blocks_may_be_called_as_functions.Goals as goal

pub returns : goal.returns
returns c = law.blocks_may_be_called_as_functions
