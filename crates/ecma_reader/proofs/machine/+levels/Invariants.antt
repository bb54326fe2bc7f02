-- A level that is left counts for two: for `read_part` and for its closure, which reads the parts inside.
use Rattle.std.proofs.Common.{◌+◌, ◌*◌}
use Rattle.ecma_reader.proofs.machine.+levels.Given as goal

abbrev pub decreases-read_part : goal.decreases-read_part
decreases-read_part l = l.left * 2

abbrev pub decreases-inside : goal.decreases-inside
decreases-inside l = l.left * 2 + 1
