-- The equations of what nodes are in their spots.
use Rattle.std.proofs.Common.{◌≡◌, refl, sym, ap, ap₂, ◌∙◌, List, [], ◌∷◌, map, Bool, true, false, if◌then◌else◌}
use Rattle.ecma_tree.specs.declared.node.Node.{Node, Node-F, fold-roll-Node, roll-Node, ind-Node}
use Rattle.ecma_tree.specs.Nodes.{node_of}
use Rattle.ecma_print.specs.declared.place.Spot.{Spot}
use Rattle.ecma_print.specs.Layout.{laid}
use Rattle.ecma_print.specs.Explicit.{Standing, laid_children, standing, stand_step, stood}

nodes_themselves : (ns : List ((n : Node) × ((stood n).node ≡ n))) → map (λ m. m.node) (map stood (map (λ e. e.0) ns)) ≡ map (λ e. e.0) ns
nodes_themselves [] = refl
nodes_themselves (n ∷ ns) = ap₂ (λ a rest. a ∷ rest) n.1 (nodes_themselves ns)

-- the node stands beside what it is in each spot
pub itself : (n : Node) → (stood n).node ≡ n
itself = ind-Node (λ n. (stood n).node ≡ n) (λ x y is.
    ap (λ m. m.node) (fold-roll-Node Standing stand_step x)
    ∙ ap (λ children. node_of x.span x.kind children)
    (ap (λ z. map (λ m. m.node) (map stood z.children)) (sym is) ∙ (nodes_themselves y.children ∙ ap (λ z. z.children) is)))

pub laid_children_of : (ns : List Node) → laid_children (map stood ns) ≡ map laid ns
laid_children_of [] = refl
laid_children_of (n ∷ ns) = ap₂ (λ a rest. a ∷ rest) (ap laid (itself n)) (laid_children_of ns)

pub stands : (x : Node-F Node) (spot : Spot) → (stood (roll-Node x)).at spot ≡ standing x.span x.kind (map stood x.children) spot
stands x spot = ap (λ m. m.at spot) (fold-roll-Node Standing stand_step x)

pub if_false : {A : Type 0} (b : Bool) (a a' : A) → b ≡ false → (if b then a else a') ≡ a'
if_false true a a' h = cc
if_false false a a' h = refl
