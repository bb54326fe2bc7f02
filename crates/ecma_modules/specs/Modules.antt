-- The reading of a whole text as a module: by the grammar, then the context rules, then what types hold goes, and the literals that are patterns become such.
use Rattle.std.specs.Prelude.{◌≡◌, ℕ, Bool, true, false, List, Option, Some, None, Result, Ok, Err}
use Rattle.ecma_tree.specs.declared.node.Node.{Node}
use Rattle.ecma_grammar.specs.declared.error.RawError.{RawError}
use Rattle.ecma_grammar.specs.declared.error.RawError.TheVariants as raw_error
use Rattle.ecma_grammar.specs.declared.production.Mode.{Mode}
use Rattle.ecma_grammar.specs.Modules as grammar
use Rattle.ecma_grammar.specs.Modules.{reads_module_with_types}
use Rattle.ecma_rules.specs.Rules.{first_broken}
use Rattle.ecma_rules.specs.Baring.{bared}
use Rattle.ecma_rules.specs.Finishing.{finished}
use Rattle.ecma_modules.specs.declared.error.ReadError.{ReadError}
use Rattle.ecma_modules.specs.declared.error.ReadError.TheVariants as error

-- all of the grammar; what is not TypeScript, with or without `import a = require("m")` and `export =`
abbrev pub typescript : Mode
typescript = record { typescript = true; assignments = true }

abbrev pub plain : Bool → Mode
plain keep_assign = record { typescript = false; assignments = keep_assign }

-- a raw tree that keeps the context rules is finished; else it breaks one at a place
abbrev pub kept_by : Node → Option ℕ → Result Node ReadError
kept_by raw None = Ok (finished (bared raw))
kept_by raw (Some at) = Err (error.Syntax at)

abbrev pub reason_of : RawError → ReadError
reason_of (raw_error.TooDeep at) = error.TooDeep at
reason_of (raw_error.Syntax at) = error.Syntax at
reason_of raw_error.NoMemory = error.NoMemory

-- the tree of what the grammar gives, or why there is none
abbrev pub answer_by : Result Node RawError → Result Node ReadError
answer_by (Ok raw) = kept_by raw (first_broken raw)
answer_by (Err reason) = Err (reason_of reason)

-- a text as a module, with at most so many levels
abbrev pub reads_as : List ℕ → Mode → ℕ → Result Node ReadError
reads_as text mode bound = answer_by (grammar.answer_of (reads_module_with_types text mode bound))

-- the deepest level
abbrev pub deepest : ℕ
deepest = 512

-- the answer, unless memory ran out
abbrev pub Answers : Result Node ReadError → Result Node ReadError → Type 0
Answers (Err error.NoMemory) answer = Unit {0}
Answers result answer = result ≡ answer
