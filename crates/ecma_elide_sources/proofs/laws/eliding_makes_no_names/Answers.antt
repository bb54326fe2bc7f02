use Rattle.ecma_elide_sources.proofs.Sources.{no_names_made}
use Rattle.ecma_elide_sources.proofs.laws.eliding_makes_no_names.Goals as goal

pub returns : goal.returns
returns c = no_names_made
