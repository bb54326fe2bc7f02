use Rattle.ecma_round_trip_literals.proofs.Again.{what_fits_and_is_plain_is_read_again}
use Rattle.ecma_round_trip_literals.proofs.what_fits_and_is_plain_is_read_again.Goals as goal

pub returns : goal.returns
returns c = what_fits_and_is_plain_is_read_again c.what_fits_is_read_again.ensures
