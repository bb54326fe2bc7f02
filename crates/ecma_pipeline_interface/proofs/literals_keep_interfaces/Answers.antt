use Rattle.ecma_pipeline_interface.proofs.Read.{literals_keep}
use Rattle.ecma_pipeline_interface.proofs.literals_keep_interfaces.Goals as goal

pub returns : goal.returns
returns c = literals_keep
