-- Trees in which each optional chain ends where it stands as an object, a callee or a tag: there it stands in parentheses.
use Rattle.std.specs.Prelude.{Bool, true, false, List, [], ◌∷◌, map, if◌then◌else◌}
use Rattle.ecma_kind.specs.declared.kind.Kind.{Kind}
use Rattle.ecma_kind.specs.declared.kind.Kind.TheVariants as kind
use Rattle.ecma_tree.specs.declared.node.Node.{Node, Node-F, fold-Node}
use Rattle.ecma_tree.specs.Nodes.{node_of}
use Rattle.ecma_print.specs.Explicit.{parenthesized}

-- what a node is by itself, and as a link of a chain
pub record Ended : Type 0 where
  pub is_chain : Bool
  pub whole : Node
  pub link : Node

abbrev pub is_chain : Kind → Bool
is_chain (kind.OptChainExpr optional) = true
is_chain k = false

abbrev pub closed : Ended → Node
closed e = if e.is_chain then parenthesized e.whole else e.whole

abbrev pub wholes : List Ended → List Node
wholes children = map (λ child. child.whole) children

abbrev pub closed_first : List Ended → List Node
closed_first [] = []
closed_first (first ∷ others) = closed first ∷ wholes others

abbrev pub ended_children : Kind → List Ended → List Node
ended_children kind.MemberExpr children = closed_first children
ended_children kind.CallExpr children = closed_first children
ended_children kind.NewExpr children = closed_first children
ended_children kind.TaggedTpl children = closed_first children
ended_children (kind.OptChainExpr optional) (base ∷ []) = base.link ∷ []
ended_children k children = wholes children

-- an object within the chain goes on with it
abbrev pub linked_children : Kind → List Ended → List Node
linked_children kind.MemberExpr children = wholes children
linked_children k children = ended_children k children

abbrev pub end_step : Node-F Ended → Ended
end_step parts = record { is_chain = is_chain parts.kind; whole = node_of parts.span parts.kind (ended_children parts.kind parts.children); link = node_of parts.span parts.kind (linked_children parts.kind parts.children) }

abbrev pub ends_of : Node → Ended
ends_of = fold-Node Ended end_step

abbrev pub ended : Node → Node
ended tree = (ends_of tree).whole
