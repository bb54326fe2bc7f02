use Rattle.ecma_round_trip_literals.proofs.Kept as law
use Rattle.ecma_round_trip_literals.proofs.what_fits_fits_with_sources.Goals as goal

pub returns : goal.returns
returns c = law.what_fits_fits_with_sources
