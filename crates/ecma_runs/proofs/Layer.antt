-- What a node means, by its kind and by what its children mean.
use Rattle.std.proofs.Common.{◌≡◌, refl, sym, ap, ap₂, ◌∙◌, List, [], ◌∷◌, map}
use Rattle.ecma_tree.specs.declared.node.Node.{Node, Node-F, fold-Node, fold-roll-Node, roll-Node, out-Node, ind-Node}
use Rattle.ecma_tree.specs.declared.node.Node.TheViews.{roll-out-Node}
use Rattle.ecma_tree.specs.Nodes.{node_of}
use Rattle.ecma_runs.specs.Evaluation.{Meant, meaning_by, meant_step, meaning}

abbrev meant : Node → Meant
meant = fold-Node Meant meant_step

itself_all : (ns : List ((n : Node) × ((meant n).node ≡ n))) → map (λ m. m.node) (map meant (map (λ e. e.0) ns)) ≡ map (λ e. e.0) ns
itself_all [] = refl
itself_all (n ∷ ns) = ap₂ (λ a rest. a ∷ rest) n.1 (itself_all ns)

-- the node stands beside its meaning
itself : (n : Node) → (meant n).node ≡ n
itself = ind-Node (λ n. (meant n).node ≡ n) (λ x y is.
    ap (λ m. m.node) (fold-roll-Node Meant meant_step x)
    ∙ ap (λ children. node_of x.span x.kind children)
    (ap (λ z. map (λ m. m.node) (map meant z.children)) (sym is) ∙ (itself_all y.children ∙ ap (λ z. z.children) is)))

nodes_itself : (ns : List Node) → map (λ m. m.node) (map meant ns) ≡ ns
nodes_itself [] = refl
nodes_itself (n ∷ ns) = ap₂ (λ a rest. a ∷ rest) (itself n) (nodes_itself ns)

meanings_of : (ns : List Node) → map (λ m. m.meaning) (map meant ns) ≡ map meaning ns
meanings_of [] = refl
meanings_of (n ∷ ns) = ap (λ rest. meaning n ∷ rest) (meanings_of ns)

pub meaning-roll : (x : Node-F Node) → meaning (roll-Node x) ≡ meaning_by (roll-Node x) x.kind (map meaning x.children)
meaning-roll x =
    ap (λ m. m.meaning) (fold-roll-Node Meant meant_step x)
    ∙ ap₂ (λ nodes meanings. meaning_by (node_of x.span x.kind nodes) x.kind meanings) (nodes_itself x.children) (meanings_of x.children)

pub meaning_out : (n : Node) → meaning n ≡ meaning_by n (out-Node n).kind (map meaning (out-Node n).children)
meaning_out n =
    ap meaning (sym (roll-out-Node n)) ∙ (meaning-roll (out-Node n) ∙ ap (λ m. meaning_by m (out-Node n).kind (map meaning (out-Node n).children)) (roll-out-Node n))
