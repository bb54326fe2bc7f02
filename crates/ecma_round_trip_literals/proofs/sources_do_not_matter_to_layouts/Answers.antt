use Rattle.ecma_round_trip_literals.proofs.Layouts as law
use Rattle.ecma_round_trip_literals.proofs.sources_do_not_matter_to_layouts.Goals as goal

pub returns : goal.returns
returns c = law.sources_do_not_matter_to_layouts
