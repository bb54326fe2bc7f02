use Rattle.ecma_strip_rewriting.proofs.Commuting.{commutes_with_stripping}
use Rattle.ecma_strip_rewriting.proofs.commutes_with_stripping.Goals as goal

pub returns : goal.returns
returns g c = commutes_with_stripping _
