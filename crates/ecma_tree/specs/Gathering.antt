-- What stands in a tree, in the order of the tree.
use Rattle.std.specs.Prelude.{ℕ, List, [], ◌∷◌, ◌++◌, flat_map}
use Rattle.ecma_kind.specs.declared.span.Span.{Span}
use Rattle.ecma_kind.specs.declared.kind.Kind.{Kind}
use Rattle.ecma_kind.specs.declared.kind.Kind.TheVariants.{Ident}
use Rattle.ecma_tree.specs.declared.node.Node.{Node, Node-F, fold-Node}

abbrev pub gathered_here : (A : Type 0) → (Span → Kind → List A) → Node-F (List A) → List A
gathered_here A here parts = here parts.span parts.kind ++ flat_map (λ items. items) parts.children

-- what `here` gives at each node, a node before its children, and they from the first to the last
abbrev pub gathered : (A : Type 0) → (Span → Kind → List A) → Node → List A
gathered A here = fold-Node (List A) (gathered_here A here)

abbrev pub symbol_here : Kind → List (List ℕ)
symbol_here (Ident sym ctxt optional) = sym ∷ []
symbol_here kind = []

-- the texts of the identifiers
abbrev pub symbols_of : Node → List (List ℕ)
symbols_of = gathered (List ℕ) (λ span kind. symbol_here kind)
