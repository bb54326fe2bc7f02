-- The items of a module, taken out and put back.
use Rattle.std.proofs.Common.{◌≡◌, ◌∙◌, List, [], ◌∷◌, Some, refl, sym, ap, slice_get, set}
use Rattle.ecma_tree.specs.Nodes.{node_of}
use Rattle.ecma_tree.specs.declared.node.Node.{Node, out-Node}
use Rattle.ecma_tree.specs.declared.node.Node.TheViews.{out-roll-Node}
use Rattle.ecma_lower.specs.Items.{first_with, items_by, with_children, with_items}

-- the first child with other items
pub set-first : (items ns : List Node) (list : Node) → slice_get ns 0 ≡ Some list → set ns 0 (with_children items list) ≡ first_with items ns
set-first items [] list at = cc
set-first items (n ∷ ns) list at = let same : n ≡ list = cc in ap (λ z. with_children items z ∷ ns) (sym same)

pub first-items : (ns : List Node) (list : Node) → slice_get ns 0 ≡ Some list → (out-Node list).children ≡ items_by ns
first-items [] list at = cc
first-items (n ∷ ns) list at = let same : n ≡ list = cc in ap (λ z. (out-Node z).children) (sym same)

pub none-with : (items ns : List Node) → ns ≡ [] → ns ≡ first_with items ns
none-with items [] none = refl
none-with items (n ∷ ns) none = cc

pub none-items : (ns : List Node) → ns ≡ [] → [] ≡ items_by ns
none-items [] none = refl
none-items (n ∷ ns) none = cc

children-twice : (more items : List Node) (n : Node) → with_children more (with_children items n) ≡ with_children more n
children-twice more items n =
    ap (λ z. node_of z.span z.kind more) (out-roll-Node (record { span = (out-Node n).span; kind = (out-Node n).kind; children = items }))

first-twice : (more items ns : List Node) → first_with more (first_with items ns) ≡ first_with more ns
first-twice more items [] = refl
first-twice more items (n ∷ ns) = ap (λ z. z ∷ ns) (children-twice more items n)

-- of items that are put in one after the other the last stay
pub items-twice : (more items : List Node) (tree : Node) → with_items more (with_items items tree) ≡ with_items more tree
items-twice more items tree =
    ap (λ z. node_of z.span z.kind (first_with more z.children)) (out-roll-Node (record { span = (out-Node tree).span; kind = (out-Node tree).kind; children = first_with items (out-Node tree).children }))
    ∙ ap (node_of (out-Node tree).span (out-Node tree).kind) (first-twice more items (out-Node tree).children)

pub ruleset putting = (set-first, first-items, none-with, none-items, items-twice)
