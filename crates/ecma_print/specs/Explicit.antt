-- The tree in which each pair of parentheses of the layout is a node.
use Rattle.std.specs.Prelude.{List, [], ◌∷◌, map, if◌then◌else◌}
use Rattle.ecma_kind.specs.declared.span.Span.{Span}
use Rattle.ecma_kind.specs.declared.kind.Kind.{Kind}
use Rattle.ecma_kind.specs.declared.kind.Kind.TheVariants as kind
use Rattle.ecma_tree.specs.declared.node.Node.{Node, Node-F, fold-Node, roll-Node}
use Rattle.ecma_tree.specs.Nodes.{dummy_span, node_of}
use Rattle.ecma_tree.specs.Rewritten.{rewritten}
use Rattle.ecma_print.specs.declared.place.Spot.{Spot}
use Rattle.ecma_print.specs.Places.{alone}
use Rattle.ecma_print.specs.Laid.{Laid}
use Rattle.ecma_print.specs.Layout.{laid}
use Rattle.ecma_print.specs.Levels.{in_parentheses}
use Rattle.ecma_print.specs.Spots.{first_spots, further_spot}

-- a node, and what it is in each spot
pub record Standing : Type 0 where
  pub node : Node
  pub at : Spot → Node

-- each child in its spot: the first ones in these, all others in this one
abbrev pub in_spots : List Standing → List Spot → Spot → List Node
in_spots [] spots further = []
in_spots (child ∷ children) [] further = child.at further ∷ in_spots children [] further
in_spots (child ∷ children) (spot ∷ spots) further = child.at spot ∷ in_spots children spots further

abbrev pub laid_children : List Standing → List Laid
laid_children children = map (λ child. laid child.node) children

-- a node in a spot that asks for no parentheses round it
abbrev pub bare : Span → Kind → List Standing → Spot → Node
bare span k children spot = node_of span k (in_spots children (first_spots k (laid_children children) spot) (further_spot k spot))

abbrev pub parenthesized : Node → Node
parenthesized expression = node_of dummy_span kind.ParenExpr (expression ∷ [])

-- a node in its spot
abbrev pub standing : Span → Kind → List Standing → Spot → Node
standing span k children spot = if in_parentheses k (laid_children children) spot then parenthesized (bare span k children alone) else bare span k children spot

abbrev pub stand_step : Node-F Standing → Standing
stand_step parts = record { node = node_of parts.span parts.kind (map (λ child. child.node) parts.children); at = standing parts.span parts.kind parts.children }

abbrev pub stood : Node → Standing
stood = fold-Node Standing stand_step

-- a tree that stands by itself, in which all parentheses are nodes
abbrev pub explicit : Node → Node
explicit tree = (stood tree).at alone

abbrev pub opened_by : Kind → List Node → Node-F Node → Node
opened_by kind.ParenExpr (expression ∷ []) parts = expression
opened_by k children parts = roll-Node parts

abbrev pub opened : Node-F Node → Node
opened parts = opened_by parts.kind parts.children parts

-- the tree without any parentheses
abbrev pub without_parens : Node → Node
without_parens = rewritten opened
