-- A text as a module, with more levels.
use Rattle.std.specs.Prelude.{◌≡◌, ◌≤◌, ℕ, List, Result, Ok, Err}
use Rattle.ecma_tree.specs.declared.node.Node.{Node}
use Rattle.ecma_grammar.specs.declared.production.Mode.{Mode}
use Rattle.ecma_modules.specs.declared.error.ReadError.{ReadError}
use Rattle.ecma_modules.specs.declared.error.ReadError.TheVariants as error
use Rattle.ecma_modules.specs.Modules.{reads_as}

-- what is read with some number of levels is read with any larger one
abbrev pub MoreLevelsReadTheSame : Type 0
MoreLevelsReadTheSame =
    (text : List ℕ) (mode : Mode) (few more : ℕ) (tree : Node) → few ≤ more
    → reads_as text mode few ≡ Ok tree → reads_as text mode more ≡ Ok tree

-- an answer other than that a use of a part is too deep
abbrev pub IsDeepEnough : Result Node ReadError → Type 0
IsDeepEnough (Err (error.TooDeep at)) = ⊥
IsDeepEnough _ = Unit {0}

-- so is the answer, where the text is not too deep
abbrev pub MoreLevelsAnswerTheSame : Type 0
MoreLevelsAnswerTheSame =
    (text : List ℕ) (mode : Mode) (few more : ℕ) → few ≤ more
    → IsDeepEnough (reads_as text mode few) → reads_as text mode more ≡ reads_as text mode few
