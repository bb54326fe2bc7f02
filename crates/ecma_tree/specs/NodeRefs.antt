-- What a reference to a part of a tree refers to: the nodes, and what they are there for.
use Rattle.std.specs.Prelude.{◌≡◌, List, [], ◌∷◌, map}
use Rattle.ecma_tree.specs.declared.node.Node.{Node}
use Rattle.ecma_tree.specs.declared.node_ref.NodeRef.{NodeRef}
use Rattle.ecma_tree.specs.declared.node_ref.NodeRef.TheVariants as part
use Rattle.ecma_tree.specs.declared.node_ref.Family.{Family}
use Rattle.ecma_tree.specs.declared.node_ref.Family.TheVariants as family
use Rattle.ecma_tree.specs.Spans.{without_spans}

abbrev pub family_of : NodeRef → Family
family_of (part.Module node) = family.Module
family_of (part.Item node) = family.Item
family_of (part.Items nodes) = family.Items
family_of (part.Stmt node) = family.Stmt
family_of (part.Stmts nodes) = family.Stmts
family_of (part.Expr node) = family.Expr
family_of (part.Pat node) = family.Pat
family_of (part.Function node) = family.Function
family_of (part.Arrow node) = family.Arrow
family_of (part.Class node) = family.Class
family_of (part.VarDecl node) = family.VarDecl

abbrev pub nodes_of : NodeRef → List Node
nodes_of (part.Module node) = node.now ∷ []
nodes_of (part.Item node) = node.now ∷ []
nodes_of (part.Items nodes) = nodes.now
nodes_of (part.Stmt node) = node.now ∷ []
nodes_of (part.Stmts nodes) = nodes.now
nodes_of (part.Expr node) = node.now ∷ []
nodes_of (part.Pat node) = node.now ∷ []
nodes_of (part.Function node) = node.now ∷ []
nodes_of (part.Arrow node) = node.now ∷ []
nodes_of (part.Class node) = node.now ∷ []
nodes_of (part.VarDecl node) = node.now ∷ []

-- both refer to the same sort of part, and to as many nodes, each equal to the other's at its place but for spans
abbrev pub EqualButForSpans : NodeRef → NodeRef → Type 0
EqualButForSpans node other = (family_of node ≡ family_of other) × (map without_spans (nodes_of node) ≡ map without_spans (nodes_of other))
