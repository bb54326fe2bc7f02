use Rattle.ecma_grammar.specs.Written.{written}
use Rattle.ecma_reader.proofs.Heads.{IsHead}
use Rattle.ecma_reader.proofs.Sizes.{left_to_read}
use Rattle.ecma_reader.proofs.reader.Reader.failure_ahead.Given as goal

abbrev pub decreases-going : goal.decreases-going
decreases-going l = left_to_read l.rest

abbrev pub invariant-going : goal.invariant-going
invariant-going l = IsHead l.self.text.now l.self.place l.self.mode (written l.fn.production) (written l.rest)
