use Rattle.ecma_strip_rewriting.proofs.Names.{names_stand_under_types}
use Rattle.ecma_strip_rewriting.proofs.names_stand_under_types.Goals as goal

pub returns : goal.returns
returns c = names_stand_under_types
