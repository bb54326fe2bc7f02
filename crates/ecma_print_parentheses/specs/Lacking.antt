-- Trees that lack no parentheses: in the spot of each node the layout adds none.
use Rattle.std.specs.Prelude.{Bool, true, ◌&&◌, not, List, [], ◌∷◌, map}
use Rattle.ecma_kind.specs.declared.kind.Kind.{Kind}
use Rattle.ecma_tree.specs.declared.node.Node.{Node, Node-F, fold-Node}
use Rattle.ecma_tree.specs.Nodes.{node_of}
use Rattle.ecma_print.specs.declared.place.Spot.{Spot}
use Rattle.ecma_print.specs.Places.{free}
use Rattle.ecma_print.specs.Laid.{Laid}
use Rattle.ecma_print.specs.Layout.{laid}
use Rattle.ecma_print.specs.Levels.{in_parentheses}
use Rattle.ecma_print.specs.Spots.{first_spots, further_spot}

-- a node, and whether it lacks none in each spot
pub record Complete : Type 0 where
  pub node : Node
  pub at : Spot → Bool

-- each child in its spot: the first ones in these, all others in this one
abbrev pub all_complete : List Complete → List Spot → Spot → Bool
all_complete [] spots further = true
all_complete (child ∷ children) [] further = child.at further && all_complete children [] further
all_complete (child ∷ children) (spot ∷ spots) further = child.at spot && all_complete children spots further

abbrev pub complete_by : Kind → List Laid → List Complete → Spot → Bool
complete_by k laid_children children spot = not (in_parentheses k laid_children spot) && all_complete children (first_spots k laid_children spot) (further_spot k spot)

abbrev pub complete_step : Node-F Complete → Complete
complete_step parts = record { node = node_of parts.span parts.kind (map (λ child. child.node) parts.children); at = complete_by parts.kind (map (λ child. laid child.node) parts.children) parts.children }

abbrev pub complete : Node → Complete
complete = fold-Node Complete complete_step

-- a tree that stands by itself
abbrev pub lacks_none : Node → Bool
lacks_none tree = (complete tree).at (free 0)
