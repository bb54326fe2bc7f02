use Rattle.ecma_strip.proofs.Untouched as untouched
use Rattle.ecma_strip.proofs.laws.trees_without_types_stay.Goals as goal

pub returns : goal.returns
returns c = untouched.trees_without_types_stay
