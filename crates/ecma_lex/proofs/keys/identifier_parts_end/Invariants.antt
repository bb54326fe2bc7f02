use Rattle.std.proofs.Common.{length, ◌-◌, ◌≡◌}
use Rattle.ecma_lex.specs.Text.{IsPiece}
use Rattle.ecma_lex.specs.Keys.{identifier_parts}
use Rattle.ecma_lex.proofs.keys.identifier_parts_end.Given as goal

abbrev pub invariant-loop-c : goal.invariant-loop-c
invariant-loop-c l = (identifier_parts l.text l.i ≡ identifier_parts l.text l.fn.from) × IsPiece l.text l.fn.from l.i

abbrev pub decreases-loop-c : goal.decreases-loop-c
decreases-loop-c l = length l.text - l.i
