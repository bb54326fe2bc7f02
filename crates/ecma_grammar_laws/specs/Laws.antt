-- What the grammar gives is sorted, its readings go on, and its repetitions end by themselves.
use Rattle.std.specs.Prelude.{◌≡◌, ℕ, List, Ok, ◌≤◌, ◌<◌, true, length}
use Rattle.std.specs.Str.{IsUtf8}
use Rattle.ecma_tree.specs.declared.node.Node.{Node}
use Rattle.ecma_kind.specs.declared.shapes.Sort.TheVariants as sort
use Rattle.ecma_grammar.specs.declared.production.Mode.{Mode}
use Rattle.ecma_grammar.specs.Modules.{answer_of, reads_module}
use Rattle.ecma_grammar.specs.declared.production.Part.{Part}
use Rattle.ecma_grammar.specs.Grammar.{Grammar}
use Rattle.ecma_grammar.specs.Reading.{Position, read}
use Rattle.ecma_grammar.specs.PartBodies.{part_body}
use Rattle.ecma_grammar.specs.productions.Modules.{module_body}
use Rattle.ecma_grammar_laws.specs.RawSorts.{HasRawSort}
use Rattle.ecma_grammar_laws.specs.Takes.{takes}
use Rattle.ecma_grammar_laws.specs.Repetitions.{reads_with, RepetitionsEndIn}

-- what is read as a module has the sort of one
abbrev pub ModulesAreSorted : Type 0
ModulesAreSorted = (text : List ℕ) (mode : Mode) (bound : ℕ) (tree : Node) → answer_of (reads_module text mode bound) ≡ Ok tree → HasRawSort sort.Module tree

-- a reading goes on, in the text; and a token further, where the grammar reads only by taking one
abbrev pub ReadingsMoveOn : Type 0
ReadingsMoveOn = (text : List ℕ) (mode : Mode) (left : ℕ) (g : Grammar) (s t : Position) (kept : List Node) → IsUtf8 text → s.place ≤ length text → reads_with text mode left g s ≡ read kept t →
    (s.place ≤ t.place) × (t.place ≤ length text) × (takes g ≡ true → s.place < t.place)

-- each repetition of a module, and of each part, ends by itself, at every level
abbrev pub RepetitionsEnd : Type 0
RepetitionsEnd = (text : List ℕ) (mode : Mode) (left : ℕ) → IsUtf8 text → RepetitionsEndIn text mode left module_body × ((u : Part) → RepetitionsEndIn text mode left (part_body u))
