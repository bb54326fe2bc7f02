-- What is asked of functions, test by test.
use Rattle.std.specs.Prelude.{◌||◌, Bool, List, map}
use Rattle.std.specs.List.{list_any}
use Rattle.ecma_tree.specs.declared.node.Node.{Node, out-Node}
use Rattle.ecma_rules.specs.Children.{kind_of}
use Rattle.ecma_plain.specs.Functions.{Functions, body_of, functions, lacks_body, takes_this}
use Rattle.ecma_tree.specs.Layers.{from_leaves}

-- whether a test holds of a node, or of one below it
abbrev pub holds_somewhere : (Node → Bool) → Node → Bool
holds_somewhere test = from_leaves Bool (λ node found. test node || list_any (λ b. b) found)

-- what is told of the children of a node
abbrev pub children_told : Node → List Functions
children_told node = map functions (out-Node node).children

-- a function without its body
abbrev pub is_bodiless : Node → Bool
is_bodiless node = lacks_body (children_told node) (body_of (kind_of node))

-- a bound name `this`, or a setter with a parameter `this` before its own
abbrev pub has_this_parameter : Node → Bool
has_this_parameter node = takes_this (kind_of node) (children_told node)
