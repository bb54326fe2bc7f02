-- Nodes that are written of functions in more than one place.
use Rattle.std.specs.Prelude.{List, [], ◌∷◌, codes}
use Rattle.ecma_kind.specs.declared.kind.Kind.TheVariants as kind
use Rattle.ecma_tree.specs.Nodes.{absent, dummy_span, node_of}
use Rattle.ecma_tree.specs.declared.node.Node.{Node}
use Rattle.ecma_utils.specs.Quotes.{name_of}

--   this
abbrev pub this_node : Node
this_node = node_of dummy_span kind.ThisExpr []

--   arguments
abbrev pub arguments_node : Node
arguments_node = name_of 0 dummy_span (codes "arguments")

-- a name that is declared
abbrev pub binding_of : Node → Node
binding_of name = node_of dummy_span kind.BindingIdent (name ∷ absent ∷ [])

-- the one node that another became, where there is one
abbrev pub first_or_absent : List Node → Node
first_or_absent [] = absent
first_or_absent (n ∷ ns) = n
