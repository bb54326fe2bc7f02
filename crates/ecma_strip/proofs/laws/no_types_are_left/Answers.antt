use Rattle.ecma_strip.proofs.Leaving as leaving
use Rattle.ecma_strip.proofs.laws.no_types_are_left.Goals as goal

pub returns : goal.returns
returns c = leaving.no_types_are_left
