-- Nodes that were begun: each is made of all that was kept since.
use Rattle.std.specs.Prelude.{ℕ, ◌≤◌, List, [], ◌∷◌, ◌++◌, take, drop, Option, Some, None}
use Rattle.ecma_tree.specs.declared.node.Node.{Node}
use Rattle.ecma_reader.specs.declared.reader.keeping.Opened.{Opened}
use Rattle.ecma_grammar.specs.Made.{made_with_types}

-- what is kept once a node is made, which ends at a place
abbrev pub built : Opened → ℕ → List Node → List Node
built opened hi xs = take opened.count xs ++ made_with_types opened.form.now opened.lo hi (drop opened.count xs) ∷ []

-- the same, where one was begun
abbrev pub closed : Option Opened → ℕ → List Node → List Node
closed None hi xs = xs
closed (Some opened) hi xs = built opened hi xs

-- it was begun when no more than so many nodes were kept
abbrev pub Within : ℕ → Option Opened → Type 0
Within n None = Unit {0}
Within n (Some opened) = opened.count ≤ n
