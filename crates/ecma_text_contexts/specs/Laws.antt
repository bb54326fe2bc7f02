-- What is read of a text needs no more contexts than its bytes allow.
use Rattle.std.specs.Prelude.{◌≡◌, ◌≤◌, ℕ, ◌+◌, ◌*◌, List, length, Ok}
use Rattle.std.specs.Str.{IsUtf8}
use Rattle.ecma_tree.specs.declared.node.Node.{Node}
use Rattle.ecma_grammar.specs.declared.production.Mode.{Mode}
use Rattle.ecma_modules.specs.Modules.{reads_as}
use Rattle.ecma_scope.specs.Needs.{needed}

-- a hundred for each byte, and twenty more
abbrev pub NeededIsBoundedByTheText : Type 0
NeededIsBoundedByTheText = (text : List ℕ) (mode : Mode) (bound : ℕ) (tree : Node) → IsUtf8 text → reads_as text mode bound ≡ Ok tree → needed tree ≤ 100 * length text + 20
