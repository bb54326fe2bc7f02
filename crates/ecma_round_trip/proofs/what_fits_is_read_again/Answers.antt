use Rattle.ecma_round_trip.proofs.Whole.{what_fits_read_again}
use Rattle.ecma_round_trip.proofs.what_fits_is_read_again.Goals as goal

pub returns : goal.returns
returns c = what_fits_read_again
