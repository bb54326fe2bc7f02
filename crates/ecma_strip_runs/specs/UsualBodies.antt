-- Trees in which the bodies of statements are usual, and no arrow function has a parameter `this`.
use Rattle.std.specs.Prelude.{Bool, ◌&&◌, not, List, [], ◌∷◌, map}
use Rattle.std.specs.List.{list_all}
use Rattle.ecma_kind.specs.declared.kind.Kind.{Kind}
use Rattle.ecma_kind.specs.declared.kind.Kind.TheVariants as kind
use Rattle.ecma_tree.specs.declared.node.Node.{Node, Node-F, fold-Node, out-Node}
use Rattle.ecma_tree.specs.Nodes.{node_of}
use Rattle.ecma_rules.specs.Statements as rules
use Rattle.ecma_strip.specs.Staying.{is_this}

-- a node, and whether a test holds of it and of all below it
pub record Told : Type 0 where
  pub node : Node
  pub holds : Bool

abbrev pub told_step : (Kind → List Node → Bool) → Node-F Told → Told
told_step test parts =
    let children = map (λ child. child.node) parts.children in
    record { node = node_of parts.span parts.kind children; holds = test parts.kind children && list_all (λ child. child.holds) parts.children }

-- a test of a kind and of the children holds at each node of a tree
abbrev pub holds_throughout : (Kind → List Node → Bool) → Node → Bool
holds_throughout test n = (fold-Node Told (told_step test) n).holds

-- the bodies of a statement, and the items of a list
abbrev pub bodies_of : Kind → List Node → List Node
bodies_of kind.IfStmt (test ∷ yes' ∷ no' ∷ []) = yes' ∷ no' ∷ []
bodies_of kind.LabeledStmt (label ∷ body ∷ []) = body ∷ []
bodies_of kind.WhileStmt (test ∷ body ∷ []) = body ∷ []
bodies_of kind.DoWhileStmt (test ∷ body ∷ []) = body ∷ []
bodies_of kind.ForStmt (init ∷ test ∷ update ∷ body ∷ []) = body ∷ []
bodies_of kind.ForInStmt (left ∷ right ∷ body ∷ []) = body ∷ []
bodies_of (kind.ForOfStmt is_await) (left ∷ right ∷ body ∷ []) = body ∷ []
bodies_of k children = []

abbrev pub items_of : Kind → List Node → List Node
items_of kind.List items = items
items_of k children = []

-- a declaration other than a `var`
abbrev pub is_declaration : Node → Bool
is_declaration n = rules.is_declaration (out-Node n).kind

abbrev pub declares_no_body : Kind → List Node → Bool
declares_no_body k children = list_all (λ body. not (is_declaration body)) (bodies_of k children)

abbrev pub lists_no_receiver : Kind → List Node → Bool
lists_no_receiver k children = list_all (λ item. not (is_this item)) (items_of k children)

-- the body of no statement is a declaration other than a `var` (ECMAScript, 14.6, 14.7, 14.13)
abbrev pub has_usual_bodies : Node → Bool
has_usual_bodies = holds_throughout declares_no_body

-- no arrow function has a parameter `this` (TypeScript refuses it: an arrow function has the `this` of what stands around it)
abbrev pub has_no_arrow_receivers : Node → Bool
has_no_arrow_receivers = holds_throughout lists_no_receiver
