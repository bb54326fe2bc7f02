use Rattle.std.proofs.Common.{◌+◌, ◌*◌, ◌≤◌}
use Rattle.ecma_grammar.specs.Written.{written}
use Rattle.ecma_reader.specs.Agreement.{reads_in}
use Rattle.ecma_reader.proofs.Readings.{IsFront, GoesOn}
use Rattle.ecma_reader.proofs.Sizes.{left_to_read}
use Rattle.ecma_reader.proofs.machine.Machine.+reading.Given as goal

abbrev pub decreases-read : goal.decreases-read
decreases-read g l = left_to_read l.production.now * 4 + 2

abbrev pub decreases-read_first : goal.decreases-read_first
decreases-read_first g l = left_to_read l.production.now * 4 + 3

abbrev pub decreases-read_last : goal.decreases-read_last
decreases-read_last g l = left_to_read l.production.now * 4 + 1

abbrev pub decreases-read_node : goal.decreases-read_node
decreases-read_node g l = left_to_read l.part.now * 4 + 3

-- the part of a repetition, which is read in turns
abbrev pub decreases-read_many : goal.decreases-read_many
decreases-read_many g l = left_to_read l.part.now * 4 + 3

abbrev pub decreases-read_ahead : goal.decreases-read_ahead
decreases-read_ahead g l = left_to_read l.part.now * 4 + 3

abbrev pub decreases-read-going : goal.decreases-read-going
decreases-read-going g l = left_to_read l.rest

abbrev pub invariant-read-going : goal.invariant-read-going
invariant-read-going g l =
    GoesOn l.initial.reader l.reader l.opened (reads_in l.initial.reader l.self.left (written l.fn.production)) (reads_in l.initial.reader l.self.left (written l.rest))
    × (left_to_read l.rest ≤ left_to_read l.fn.production)

abbrev pub invariant-read_many-loop-i : goal.invariant-read_many-loop-i
invariant-read_many-loop-i g l = IsFront l.initial.reader l.reader l.i (reads_in l.initial.reader l.self.left (written l.part))

-- what failed is read again
abbrev pub decreases-remember : goal.decreases-remember
decreases-remember g l = left_to_read l.production.now * 4 + 3
