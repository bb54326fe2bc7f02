use Rattle.ecma_elide_sources.proofs.Keeping.{sources_stay}
use Rattle.ecma_elide_sources.proofs.laws.kept_sources_stay.Goals as goal

pub returns : goal.returns
returns c = sources_stay
