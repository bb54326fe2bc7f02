-- The equation of `from_leaves`, once for every step.
use Rattle.std.proofs.Common.{◌≡◌, refl, sym, ap, ap₂, ◌∙◌, List, [], ◌∷◌, map}
use Rattle.ecma_tree.specs.declared.node.Node.{Node, Node-F, fold-Node, fold-roll-Node, roll-Node, out-Node, ind-Node}
use Rattle.ecma_tree.specs.declared.node.Node.TheViews.{roll-out-Node}
use Rattle.ecma_tree.specs.Nodes.{node_of}
use Rattle.ecma_tree.specs.Layers.{Made, layer, from_leaves}

module _ (A : Type 0) (step : Node → List A → A) where
  made : Node → Made A
  made = fold-Node (Made A) (layer A step)

  itself_all : (ns : List ((n : Node) × ((fold-Node (Made A) (layer A step) n).node ≡ n)))
      → map (λ m. m.node) (map (fold-Node (Made A) (layer A step)) (map (λ e. e.0) ns)) ≡ map (λ e. e.0) ns
  itself_all [] = refl
  itself_all (n ∷ ns) = ap₂ (λ a rest. a ∷ rest) n.1 (itself_all ns)

  -- the node stands beside what is made of it
  itself : (n : Node) → (fold-Node (Made A) (layer A step) n).node ≡ n
  itself = ind-Node (λ n. (fold-Node (Made A) (layer A step) n).node ≡ n) (λ x y is.
      ap (λ m. m.node) (fold-roll-Node (Made A) (layer A step) x)
      ∙ ap (λ children. node_of x.span x.kind children)
      (ap (λ z. map (λ m. m.node) (map (fold-Node (Made A) (layer A step)) z.children)) (sym is) ∙ (itself_all y.children ∙ ap (λ z. z.children) is)))

  nodes_itself : (ns : List Node) → map (λ m. m.node) (map (fold-Node (Made A) (layer A step)) ns) ≡ ns
  nodes_itself [] = refl
  nodes_itself (n ∷ ns) = ap₂ (λ a rest. a ∷ rest) (itself n) (nodes_itself ns)

  results_of : (ns : List Node) → map (λ m. m.result) (map (fold-Node (Made A) (layer A step)) ns) ≡ map (from_leaves A step) ns
  results_of [] = refl
  results_of (n ∷ ns) = ap (λ rest. from_leaves A step n ∷ rest) (results_of ns)

  pub from_leaves-roll : (x : Node-F Node) → from_leaves A step (roll-Node x) ≡ step (roll-Node x) (map (from_leaves A step) x.children)
  from_leaves-roll x =
      ap (λ m. m.result) (fold-roll-Node (Made A) (layer A step) x)
      ∙ ap₂ (λ nodes results. step (node_of x.span x.kind nodes) results) (nodes_itself x.children) (results_of x.children)

  -- what is made of a node is the step at it, and at what is made of its children
  pub from_leaves_out : (n : Node) → from_leaves A step n ≡ step n (map (from_leaves A step) (out-Node n).children)
  from_leaves_out n =
      ap (from_leaves A step) (sym (roll-out-Node n)) ∙ (from_leaves-roll (out-Node n) ∙ ap (λ m. step m (map (from_leaves A step) (out-Node n).children)) (roll-out-Node n))
