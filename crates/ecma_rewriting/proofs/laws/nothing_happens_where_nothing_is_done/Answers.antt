use Rattle.ecma_rewriting.proofs.Staying.{trees_stay}
use Rattle.ecma_rewriting.proofs.laws.nothing_happens_where_nothing_is_done.Goals as goal

pub returns : goal.returns
returns g c = trees_stay _
