-- The equation of what only types go from.
use Rattle.std.proofs.Common.{◌≡◌, refl, sym, ap, ap₂, ◌∙◌, List, [], ◌∷◌, map}
use Rattle.ecma_tree.specs.declared.node.Node.{Node, Node-F, fold-Node, fold-roll-Node, roll-Node, ind-Node}
use Rattle.ecma_tree.specs.Nodes.{node_of}
use Rattle.ecma_strip_runs.specs.OnlyTypes.{Seen, fine_by, seen_step, only_types_go}

-- a node as it is seen
abbrev pub seen : Node → Seen
seen n = record { node = n; fine = only_types_go n }

itself_all : (ns : List ((n : Node) × ((fold-Node Seen seen_step n).node ≡ n)))
    → map (λ b. b.node) (map (fold-Node Seen seen_step) (map (λ e. e.0) ns)) ≡ map (λ e. e.0) ns
itself_all [] = refl
itself_all (n ∷ ns) = ap₂ (λ a rest. a ∷ rest) n.1 (itself_all ns)

itself : (n : Node) → (fold-Node Seen seen_step n).node ≡ n
itself = ind-Node (λ n. (fold-Node Seen seen_step n).node ≡ n) (λ x y is.
    ap (λ b. b.node) (fold-roll-Node Seen seen_step x)
    ∙ ap (λ children. node_of x.span x.kind children)
    (ap (λ z. map (λ b. b.node) (map (fold-Node Seen seen_step) z.children)) (sym is) ∙ (itself_all y.children ∙ ap (λ z. z.children) is)))

seen_is : (n : Node) → fold-Node Seen seen_step n ≡ seen n
seen_is n = ap (λ node. record { node = node; fine = only_types_go n }) (itself n)

all_seen : (ns : List Node) → map (fold-Node Seen seen_step) ns ≡ map seen ns
all_seen [] = refl
all_seen (n ∷ ns) = ap₂ (λ a rest. a ∷ rest) (seen_is n) (all_seen ns)

pub only_types_go-roll : (x : Node-F Node) → only_types_go (roll-Node x) ≡ fine_by x.kind (map seen x.children)
only_types_go-roll x = ap (λ b. b.fine) (fold-roll-Node Seen seen_step x) ∙ ap (fine_by x.kind) (all_seen x.children)
