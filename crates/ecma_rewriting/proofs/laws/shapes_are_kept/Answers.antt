use Rattle.ecma_rewriting.proofs.Shapes.{exchanges_keep_shapes, nodes_of_ones_keep_shapes, shapes_turn}
use Rattle.ecma_rewriting.proofs.laws.shapes_are_kept.Goals as goal

pub returns-clause-several : goal.returns-clause-several
returns-clause-several g c = shapes_turn _

pub returns-clause-one : goal.returns-clause-one
returns-clause-one g c = exchanges_keep_shapes _

pub returns-clause-node : goal.returns-clause-node
returns-clause-node g c = nodes_of_ones_keep_shapes _
