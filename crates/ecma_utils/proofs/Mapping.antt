-- A list that is mapped item by item.
use Rattle.std.proofs.Common.{◌≡◌, List, [], ◌∷◌, ◌++◌, map}
use Rattle.std.proofs.lemmas.List.{append-nil, map-append}
use Rattle.ecma_tree.specs.declared.node.Node.{Node}

pub mapped : (f : Node → Node) (xs : List Node) (n : Node) → map f (xs ++ n ∷ []) ≡ map f xs ++ f n ∷ []
mapped f xs n = map-append f xs (n ∷ [])

pub ruleset mapping = (mapped, append-nil)
