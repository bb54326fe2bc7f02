use Rattle.std.proofs.Common.{◌≡◌, ◌+◌, ◌<◌, length}
use Rattle.ecma_print.specs.Escapes.{escaped, made_text}
use Rattle.ecma_plain.proofs.literals.is_quoted_readable.Given as goal

-- what was counted, and the bytes that are left
abbrev pub invariant-loop-left : goal.invariant-loop-left
invariant-loop-left l = (l.written + length (escaped l.left) ≡ length (made_text l.text)) × (l.written < 4294967302)

abbrev pub decreases-loop-left : goal.decreases-loop-left
decreases-loop-left l = length l.left
