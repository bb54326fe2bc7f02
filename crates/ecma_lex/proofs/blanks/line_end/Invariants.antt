use Rattle.std.proofs.Common.{length, ◌-◌, ◌≡◌}
use Rattle.ecma_lex.specs.Text.{IsPiece}
use Rattle.ecma_lex.specs.Blanks.{line}
use Rattle.ecma_lex.proofs.blanks.line_end.Given as goal

abbrev pub invariant-loop-c : goal.invariant-loop-c
invariant-loop-c l = (line l.text l.i ≡ line l.text l.fn.from) × IsPiece l.text l.fn.from l.i

abbrev pub decreases-loop-c : goal.decreases-loop-c
decreases-loop-c l = length l.text - l.i
