use Rattle.std.proofs.Common.{length, ◌-◌, ◌≡◌}
use Rattle.ecma_lex.specs.Text.{IsPiece}
use Rattle.ecma_lex.specs.Blanks.{comment_rest}
use Rattle.ecma_lex.proofs.blanks.comment_rest_end.Given as goal

abbrev pub invariant-loop-c : goal.invariant-loop-c
invariant-loop-c l = (comment_rest l.text l.i ≡ comment_rest l.text l.fn.from) × IsPiece l.text l.fn.from l.i

abbrev pub decreases-loop-c : goal.decreases-loop-c
decreases-loop-c l = length l.text - l.i
