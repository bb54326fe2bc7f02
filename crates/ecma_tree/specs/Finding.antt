-- What a search finds in a tree: what it looks for, and which children it enters.
use Rattle.std.specs.Prelude.{ℕ, suc, ◌||◌, ◌&&◌, Bool, true, false, List, [], ◌∷◌, bytes_eq}
use Rattle.ecma_kind.specs.declared.kind.Kind.{Kind}
use Rattle.ecma_kind.specs.declared.kind.Kind.TheVariants.{Ident}
use Rattle.ecma_tree.specs.declared.node.Node.{Node, Node-F, fold-Node}

-- of what is found in children, of which the first is the one at i: whether it is found in one that is entered
abbrev pub finds_from : (ℕ → Bool) → ℕ → List Bool → Bool
finds_from entered i [] = false
finds_from entered i (found ∷ others) = (entered i && found) || finds_from entered (suc i) others

abbrev pub finds_here : (Kind → Bool) → (Kind → ℕ → Bool) → Node-F Bool → Bool
finds_here is_here enters parts = is_here parts.kind || finds_from (enters parts.kind) 0 parts.children

-- whether a node that is_here tells by its kind can be reached, where a child is entered that `enters` lets pass, by the kind of its parent and its own index
abbrev pub finds : (Kind → Bool) → (Kind → ℕ → Bool) → Node → Bool
finds is_here enters = fold-Node Bool (finds_here is_here enters)

-- into every child
abbrev pub enters_all : Kind → ℕ → Bool
enters_all kind i = true

abbrev pub is_ident : List ℕ → Kind → Bool
is_ident sym (Ident text ctxt optional) = bytes_eq text sym
is_ident sym kind = false

-- whether an identifier of this text stands in the tree
abbrev pub mentions : List ℕ → Node → Bool
mentions sym = finds (is_ident sym) enters_all
