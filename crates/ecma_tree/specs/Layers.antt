-- Definitions from the leaves of a tree up, that also look at the nodes themselves.
use Rattle.std.specs.Prelude.{List, map}
use Rattle.ecma_tree.specs.declared.node.Node.{Node, Node-F, fold-Node}
use Rattle.ecma_tree.specs.Nodes.{node_of}

-- a node, and what is made of it
pub record Made (A : Type 0) : Type 0 where
  pub node : Node
  pub result : A

abbrev pub layer : (A : Type 0) → (Node → List A → A) → Node-F (Made A) → Made A
layer A step parts =
    let node = node_of parts.span parts.kind (map (λ m. m.node) parts.children) in
    record { node = node; result = step node (map (λ m. m.result) parts.children) }

-- what is made of a node and of what was made of its children
abbrev pub from_leaves : (A : Type 0) → (Node → List A → A) → Node → A
from_leaves A step node = (fold-Node (Made A) (layer A step) node).result
