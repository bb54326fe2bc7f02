-- What holds of every node of a tree.
use Rattle.std.specs.Prelude.{List, [], ◌∷◌}
use Rattle.ecma_tree.specs.declared.node.Node.{Node, out-Node}

module _ (P : Node → Type 0) where
  mutual
    -- of a node and of all below it
    pub data Throughout : Node → Type 0 where
      throughout : {n : Node} → P n → Each (out-Node n).children → Throughout n

    -- in each of several trees
    pub data Each : List Node → Type 0 where
      none : Each []
      more : {n : Node} {ns : List Node} → Throughout n → Each ns → Each (n ∷ ns)
