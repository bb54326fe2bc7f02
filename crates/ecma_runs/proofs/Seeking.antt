-- What a node looks up, by its kind and by what its children mean and look up.
use Rattle.std.proofs.Common.{◌≡◌, sym, ap, ◌∙◌, refl, List, [], ◌∷◌, map}
use Rattle.ecma_tree.specs.declared.node.Node.{Node, Node-F, fold-Node, fold-roll-Node, roll-Node, ind-Node}
use Rattle.ecma_tree.specs.Nodes.{node_of}
use Rattle.ecma_runs.specs.Evaluation.{meaning}
use Rattle.ecma_runs.specs.Sought.{Seeker, Seeking, seeking_step, sought_by, sought_in, seeker}

abbrev seeking : Node → Seeking
seeking = fold-Node Seeking seeking_step

abbrev of_child : Seeking → Seeker
of_child child = record { meaning = meaning child.node; seeks = child.seeks }

itself_all : (ns : List ((n : Node) × ((seeking n).node ≡ n))) → map (λ child. child.node) (map seeking (map (λ e. e.0) ns)) ≡ map (λ e. e.0) ns
itself_all [] = refl
itself_all (n ∷ ns) = ap (λ z. z ∷ map (λ child. child.node) (map seeking (map (λ e. e.0) ns))) n.1 ∙ ap (λ z. n.0 ∷ z) (itself_all ns)

-- the node stands beside what it looks up
itself : (n : Node) → (seeking n).node ≡ n
itself = ind-Node (λ n. (seeking n).node ≡ n) (λ x y is.
    ap (λ child. child.node) (fold-roll-Node Seeking seeking_step x)
    ∙ ap (λ children. node_of x.span x.kind children)
    (ap (λ z. map (λ child. child.node) (map seeking z.children)) (sym is) ∙ (itself_all y.children ∙ ap (λ z. z.children) is)))

seekers_of : (ns : List Node) → map of_child (map seeking ns) ≡ map seeker ns
seekers_of [] = refl
seekers_of (n ∷ ns) = ap (λ z. record { meaning = meaning z; seeks = sought_in n } ∷ map of_child (map seeking ns)) (itself n) ∙ ap (λ z. seeker n ∷ z) (seekers_of ns)

pub sought-roll : (x : Node-F Node) → sought_in (roll-Node x) ≡ sought_by x.kind (map seeker x.children)
sought-roll x = ap (λ child. child.seeks) (fold-roll-Node Seeking seeking_step x) ∙ ap (sought_by x.kind) (seekers_of x.children)
