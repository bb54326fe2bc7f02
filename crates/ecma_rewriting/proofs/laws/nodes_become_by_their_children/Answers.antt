use Rattle.ecma_rewriting.proofs.Equations.{nodes_become}
use Rattle.ecma_rewriting.proofs.laws.nodes_become_by_their_children.Goals as goal

pub returns : goal.returns
returns g c = nodes_become _
