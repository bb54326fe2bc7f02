use Rattle.std.proofs.Common.{map, drop}
use Rattle.ecma_reader.specs.Agreement.{parts_in}
use Rattle.ecma_grammar.specs.Written.{written_tail}
use Rattle.ecma_reader.proofs.Tails.{TailsLeft}
use Rattle.ecma_reader.proofs.machine.Machine.read_tails.Given as goal

abbrev pub invariant-loop-i : goal.invariant-loop-i
invariant-loop-i g l = TailsLeft l.initial.reader l.reader l.operand (parts_in l.initial.reader l.self.left) (map written_tail l.tails) (map written_tail (drop l.i l.tails))
