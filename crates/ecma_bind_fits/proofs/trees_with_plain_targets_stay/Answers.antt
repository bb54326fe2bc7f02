use Rattle.ecma_bind_fits.proofs.Staying.{names_stay}
use Rattle.ecma_bind_fits.proofs.trees_with_plain_targets_stay.Goals as goal

pub returns : goal.returns
returns c = names_stay
