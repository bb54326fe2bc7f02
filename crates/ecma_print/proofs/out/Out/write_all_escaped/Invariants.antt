use Rattle.std.proofs.Common.{◌≡◌, ◌++◌, ℕ, List, length}
use Rattle.ecma_print.specs.Escapes.{escaped}
use Rattle.ecma_print.proofs.out.Out.write_all_escaped.Given as goal

-- what was written, and the bytes that are left
abbrev pub invariant-loop-left : goal.invariant-loop-left
invariant-loop-left l = (rest : List ℕ) → l.self.bytes.items ++ (escaped l.left ++ rest) ≡ l.fn.self.bytes.items ++ (escaped l.text ++ rest)

abbrev pub decreases-loop-left : goal.decreases-loop-left
decreases-loop-left l = length l.left
