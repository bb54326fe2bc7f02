-- The leaves of what is read of a text are spelled.
use Rattle.std.specs.Prelude.{◌≡◌, ℕ, List}
use Rattle.std.specs.Str.{IsUtf8}
use Rattle.ecma_tree.specs.declared.node.Node.{Node}
use Rattle.ecma_grammar.specs.declared.production.Mode.{Mode}
use Rattle.ecma_grammar.specs.Reading.{Position, read}
use Rattle.ecma_grammar.specs.Modules.{reads_module}
use Rattle.ecma_text_leaves.specs.Everywhere.{Each}
use Rattle.ecma_text_leaves.specs.Spelling.{IsSpelled}

abbrev pub LeavesAreSpelled : Type 0
LeavesAreSpelled = (text : List ℕ) (mode : Mode) (bound : ℕ) (trees : List Node) (s : Position) → IsUtf8 text → reads_module text mode bound ≡ read trees s → Each IsSpelled trees
