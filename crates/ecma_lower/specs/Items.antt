-- The items of a module: those of the list that is its only child.
use Rattle.std.specs.Prelude.{List, [], ◌∷◌}
use Rattle.ecma_tree.specs.Nodes.{node_of}
use Rattle.ecma_tree.specs.declared.node.Node.{Node, out-Node}

abbrev pub items_by : List Node → List Node
items_by [] = []
items_by (list ∷ others) = (out-Node list).children

abbrev pub items_of : Node → List Node
items_of tree = items_by (out-Node tree).children

abbrev pub with_children : List Node → Node → Node
with_children children n = node_of (out-Node n).span (out-Node n).kind children

abbrev pub first_with : List Node → List Node → List Node
first_with items [] = []
first_with items (list ∷ others) = with_children items list ∷ others

-- a module with these items in the place of its own
abbrev pub with_items : List Node → Node → Node
with_items items tree = with_children (first_with items (out-Node tree).children) tree

-- a module with what is made of its items in their place
abbrev pub in_items : (List Node → List Node) → Node → Node
in_items f tree = with_items (f (items_of tree)) tree
