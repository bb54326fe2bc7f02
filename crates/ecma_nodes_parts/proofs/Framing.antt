-- Lists of so many items.
use Rattle.std.proofs.Common.{◌≡◌, ◌+◌, List, [], ◌∷◌, ◌++◌, length}
use Rattle.std.proofs.lemmas.List.{length-append}
use Rattle.ecma_tree.specs.declared.node.Node.{Node}

pub length-one_more : (xs : List Node) (x : Node) → length (xs ++ x ∷ []) ≡ length xs + 1
length-one_more xs x = length-append xs (x ∷ [])

pub ruleset framing = (length-one_more)
