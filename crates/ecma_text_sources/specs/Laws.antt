-- What is read as a module, and when it is the source of a module that is written.
use Rattle.std.specs.Prelude.{◌≡◌, ◌<◌, ◌^◌, ℕ, List, [], None, Ok, length}
use Rattle.std.specs.Str.{IsUtf8}
use Rattle.ecma_tree.specs.declared.node.Node.{Node}
use Rattle.ecma_grammar.specs.declared.production.Mode.{Mode}
use Rattle.ecma_modules.specs.Modules.{reads_as}
use Rattle.ecma_scope.specs.Conflicts.{redeclared}
use Rattle.ecma_forms.specs.Forms.{first_unlowered}
use Rattle.ecma_sources.specs.Sources.{IsSource}
use Rattle.ecma_plain.specs.Read.{IsRead}

-- what is read as a module, in either mode and with any number of levels, is as trees are read
abbrev pub ReadTreesAreRead : Type 0
ReadTreesAreRead = (text : List ℕ) (mode : Mode) (bound : ℕ) (tree : Node) → IsUtf8 text → length text < 2 ^ 32 → reads_as text mode bound ≡ Ok tree → IsRead tree

-- where no other pass has to lower one of its forms first, and no name is declared again where it may not be, it is a source
abbrev pub TreesThatNeedNoLoweringAreSources : Type 0
TreesThatNeedNoLoweringAreSources = (tree : Node) → IsRead tree → first_unlowered tree ≡ None → redeclared tree ≡ [] → IsSource tree
