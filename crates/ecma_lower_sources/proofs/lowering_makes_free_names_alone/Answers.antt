use Rattle.ecma_lower_sources.proofs.Keeping.{lowering_makes_free_names_alone}
use Rattle.ecma_lower_sources.proofs.lowering_makes_free_names_alone.Goals as goal

pub returns : goal.returns
returns c = lowering_makes_free_names_alone
