-- What is shown of each node from its children.
use Rattle.std.proofs.Common.{◌∙◌, List, [], ◌∷◌, map, sym, ap, subst}
use Rattle.ecma_tree.specs.declared.node.Node.{Node, Node-F, ind-Node, out-Node, roll-Node}
use Rattle.ecma_tree.specs.declared.node.Node.TheViews.{out-roll-Node}

abbrev pub children_of : Node → List Node
children_of n = (out-Node n).children

module _ (P : Node → Type 0) where
  abbrev pub Each : List Node → Type 0
  Each [] = Unit {0}
  Each (c ∷ cs) = P c × Each cs

  each_of : (es : List ((n : Node) × P n)) → Each (map (λ e. e.0) es)
  each_of [] = tt
  each_of (e ∷ es) = (e.1, each_of es)

  pub everywhere : ((n : Node) → Each (children_of n) → P n) → (n : Node) → P n
  everywhere step = ind-Node P (λ x y is. step (roll-Node x) (subst Each (ap (λ (z : Node-F Node). z.children) is ∙ sym (ap (λ (z : Node-F Node). z.children) (out-roll-Node x))) (each_of y.children)))
