-- The reading of a whole text by the grammar alone.
use Rattle.std.specs.Prelude.{◌≡◌, ℕ, List, Result, Ok, Err}
use Rattle.ecma_tree.specs.declared.node.Node.{Node}
use Rattle.ecma_grammar.specs.declared.error.RawError.{RawError}
use Rattle.ecma_grammar.specs.declared.error.RawError.TheVariants as error
use Rattle.ecma_grammar.specs.declared.production.Mode.{Mode}
use Rattle.ecma_grammar.specs.Reading.{Outcome, read, fails, too_deep}
use Rattle.ecma_grammar.specs.trees.Parts.{framed}
use Rattle.ecma_grammar.specs.trees.Others.{the_one}
use Rattle.ecma_grammar.specs.productions.Modules.{module_body}
use Rattle.ecma_grammar.specs.Made.{Making, made, made_with_types}
use Rattle.ecma_grammar.specs.Reads.{reads_by, levels_by}

-- a text as a module, with at most so many levels
abbrev pub reads_module_by : Making → List ℕ → Mode → ℕ → Outcome (List Node)
reads_module_by make text mode bound = reads_by text mode make (levels_by text mode make bound) module_body (record { place = 0; failed = 0 })

-- where types hold nothing, and where they hold what was read in them
abbrev pub reads_module : List ℕ → Mode → ℕ → Outcome (List Node)
reads_module = reads_module_by made

abbrev pub reads_module_with_types : List ℕ → Mode → ℕ → Outcome (List Node)
reads_module_with_types = reads_module_by made_with_types

-- the tree, or why there is none
abbrev pub answer_of : Outcome (List Node) → Result Node RawError
answer_of (read trees s) = Ok (framed 1 the_one trees)
answer_of (fails at) = Err (error.Syntax at)
answer_of (too_deep at) = Err (error.TooDeep at)

-- the answer, unless memory ran out
abbrev pub Answers : Result Node RawError → Result Node RawError → Type 0
Answers (Err error.NoMemory) answer = Unit {0}
Answers result answer = result ≡ answer
