use Rattle.ecma_bind_fits.proofs.Whole.{names_are_plain}
use Rattle.ecma_bind_fits.proofs.bound_names_are_plain.Goals as goal

pub returns : goal.returns
returns c = names_are_plain
