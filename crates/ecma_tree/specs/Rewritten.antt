-- What rewrites a tree from the leaves up: each node once its children are rewritten.
use Rattle.ecma_tree.specs.declared.node.Node.{Node, Node-F, fold-Node}

abbrev pub rewritten : (Node-F Node → Node) → Node → Node
rewritten rule = fold-Node Node rule
