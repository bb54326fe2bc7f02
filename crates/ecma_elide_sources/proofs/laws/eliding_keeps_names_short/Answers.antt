use Rattle.ecma_elide_sources.proofs.Sources.{names_stay_short}
use Rattle.ecma_elide_sources.proofs.laws.eliding_keeps_names_short.Goals as goal

pub returns : goal.returns
returns c = names_stay_short
