-- Identifiers of what is read stand in the source.
use Rattle.std.specs.Prelude.{◌≡◌, ℕ, List, Ok}
use Rattle.std.specs.Str.{IsUtf8}
use Rattle.ecma_tree.specs.declared.node.Node.{Node}
use Rattle.ecma_grammar.specs.declared.production.Mode.{Mode}
use Rattle.ecma_modules.specs.Modules.{reads_as}
use Rattle.ecma_hygiene_fits.specs.Placed.{NoneMade}

-- an identifier has a byte at least, so it does not end where the text begins
abbrev pub NamesThatAreReadStandInTheSource : Type 0
NamesThatAreReadStandInTheSource = (text : List ℕ) (mode : Mode) (bound : ℕ) (tree : Node) → IsUtf8 text → reads_as text mode bound ≡ Ok tree → NoneMade tree
