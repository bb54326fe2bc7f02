-- Readings where so many levels are left, and repetitions that end by themselves.
use Rattle.std.specs.Prelude.{◌≡◌, ◌≤◌, ℕ, ◌+◌, List, length}
use Rattle.std.specs.List.{All}
use Rattle.ecma_tree.specs.declared.node.Node.{Node}
use Rattle.ecma_grammar.specs.declared.production.Mode.{Mode}
use Rattle.ecma_grammar.specs.Grammar.{Grammar}
use Rattle.ecma_grammar.specs.Reading.{Position, Reading, many_up_to}
use Rattle.ecma_grammar.specs.Reads.{reads, levels}
use Rattle.ecma_grammar_laws.specs.Takes.{repeated}

-- what a grammar reads where so many levels are allowed inside
abbrev pub reads_with : List ℕ → Mode → ℕ → Grammar → Reading (List Node)
reads_with text mode left g = reads text mode (levels text mode left) g

-- with more turns a repetition reads the same: its bound, the length of the text and one, never ends it
abbrev pub EndsItself : List ℕ → Reading (List Node) → Type 0
EndsItself text p = (s : Position) (n : ℕ) → s.place ≤ length text → length text + 1 ≤ n → many_up_to p n s ≡ many_up_to p (length text + 1) s

-- so it is for each repetition of a grammar
abbrev pub RepetitionsEndIn : List ℕ → Mode → ℕ → Grammar → Type 0
RepetitionsEndIn text mode left g = All (λ a. EndsItself text (reads_with text mode left a)) (repeated g)
