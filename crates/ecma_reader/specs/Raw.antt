-- Why the reading of a whole text by the grammar alone ends without a tree.
use Rattle.std.specs.Prelude.{ℕ}
use Rattle.ecma_reader.specs.declared.failure.Failure.{Failure}
use Rattle.ecma_reader.specs.declared.failure.Failure.TheVariants as failure
use Rattle.ecma_grammar.specs.declared.error.RawError.{RawError}
use Rattle.ecma_grammar.specs.declared.error.RawError.TheVariants as error

-- why a text was not read, where terminals failed up to a place
abbrev pub reason_of : Failure → ℕ → RawError
reason_of failure.NoMatch failed = error.Syntax failed
reason_of (failure.TooDeep at) failed = error.TooDeep at
reason_of failure.NoMemory failed = error.NoMemory
