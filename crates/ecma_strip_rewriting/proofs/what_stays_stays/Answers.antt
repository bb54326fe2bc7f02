use Rattle.ecma_strip_rewriting.proofs.Remaining.{what_stays_stays}
use Rattle.ecma_strip_rewriting.proofs.what_stays_stays.Goals as goal

pub returns : goal.returns
returns g c = what_stays_stays _
