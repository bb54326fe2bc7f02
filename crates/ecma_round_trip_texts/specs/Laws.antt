-- A plain module that is laid out anew is read again.
use Rattle.std.specs.Prelude.{◌≡◌, ◌<◌, ◌^◌, ℕ, false, List, Ok, length}
use Rattle.std.specs.Str.{IsUtf8}
use Rattle.ecma_tree.specs.declared.node.Node.{Node}
use Rattle.ecma_modules.specs.Modules.{plain, reads_as}
use Rattle.ecma_print.specs.Layout.{layout}
use Rattle.ecma_round_trip_texts.specs.Again.{IsReadAsTree}

-- the layout of what was read as a plain module
abbrev pub RelaidModulesAreReadAgain : Type 0
RelaidModulesAreReadAgain =
    (text : List ℕ) (bound : ℕ) (tree : Node) → IsUtf8 text → length text < 2 ^ 32 → reads_as text (plain false) bound ≡ Ok tree → IsReadAsTree tree (layout tree)
