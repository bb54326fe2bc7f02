-- The nodes of a tree, with what stands around them.
use Rattle.std.specs.Prelude.{List, [], ◌∷◌}
use Rattle.ecma_tree.specs.declared.node.Node.{Node}
use Rattle.ecma_hygiene.specs.Sights.{Around, around_child, nowhere}
use Rattle.ecma_hygiene.specs.Walks.{gathered_down}

pub record Place : Type 0 where
  pub around : Around
  pub node : Node

abbrev pub place_here : Around → Node → List Place
place_here around node = record { around = around; node = node } ∷ []

abbrev pub places_at : Node → Around → List Place
places_at = gathered_down Around Place place_here around_child

-- each node of a tree
abbrev pub places : Node → List Place
places tree = places_at tree nowhere
