-- Nodes that have a shape.
use Rattle.std.proofs.Common.{List, [], ◌∷◌}
use Rattle.ecma_kind.specs.declared.shapes.Shape.{Shape}
use Rattle.ecma_tree.specs.declared.node.Node.{Node}
use Rattle.ecma_tree.specs.Laws.{HaveShapes}
use Rattle.ecma_tree.specs.Sorted.{HasShape}

abbrev pub Shaped : Node → Type 0
Shaped n = (shape : Shape) × HasShape shape n

abbrev pub AllShaped : List Node → Type 0
AllShaped [] = Unit {0}
AllShaped (n ∷ ns) = Shaped n × AllShaped ns

pub all_shaped : (shapes : List Shape) (ns : List Node) → HaveShapes shapes ns → AllShaped ns
all_shaped shapes [] h = tt
all_shaped [] (n ∷ ns) h = absurd h
all_shaped (shape ∷ shapes) (n ∷ ns) h = ((shape, h.0), all_shaped shapes ns h.1)
