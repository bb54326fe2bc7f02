-- What holds of every node of a tree.
use Rattle.std.specs.Prelude.{List, [], ◌∷◌}
use Rattle.ecma_kind.specs.declared.span.Span.{Span}
use Rattle.ecma_kind.specs.declared.kind.Kind.{Kind}
use Rattle.ecma_tree.specs.declared.node.Node.{Node}
use Rattle.ecma_tree.specs.Nodes.{node_of}

module _ (P : Kind → Type 0) where
  mutual
    -- of a node's kind and of all below it
    pub data Everywhere : Node → Type 0 where
      everywhere : (at : Span) (kind : Kind) {children : List Node} → P kind → Each children → Everywhere (node_of at kind children)

    -- in each of several trees
    pub data Each : List Node → Type 0 where
      none : Each []
      more : {n : Node} {ns : List Node} → Everywhere n → Each ns → Each (n ∷ ns)
