-- What rewrites a tree from the leaves up, where a node may become none, one or several.
use Rattle.std.specs.Prelude.{◌≡◌, Bool, false, List, [], ◌∷◌, flat_map}
use Rattle.ecma_kind.specs.declared.span.Span.{Span}
use Rattle.ecma_kind.specs.declared.kind.Kind.{Kind}
use Rattle.ecma_tree.specs.Nodes.{node_of}
use Rattle.ecma_tree.specs.declared.node.Node.{Node, Node-F, fold-Node}
use Rattle.ecma_forest.specs.Summaries.{kind_summary}
use Rattle.ecma_forest.specs.declared.summary.Summary.{Summary}

abbrev pub flat : List (List Node) → List Node
flat = flat_map (λ ns. ns)

abbrev pub rewritten_here : (Span → Kind → List Node → List Node) → Node-F (List Node) → List Node
rewritten_here rule parts = rule parts.span parts.kind (flat parts.children)

abbrev pub rewritten : (Span → Kind → List Node → List Node) → Node → List Node
rewritten rule = fold-Node (List Node) (rewritten_here rule)

-- a rule under which every node stays of whose kind the question says no
abbrev pub ChangesAskedAlone : (Summary → Bool) → (Span → Kind → List Node → List Node) → Type 0
ChangesAskedAlone asks rule = (span : Span) (kind : Kind) (children : List Node) → asks (kind_summary kind) ≡ false → rule span kind children ≡ node_of span kind children ∷ []
