use Rattle.std.proofs.Common.{◌≡◌, ◌++◌, ℕ, List, drop, map}
use Rattle.ecma_print.specs.Expressions.{sequence, more_of_sequence}
use Rattle.ecma_print.specs.Layout.{laid, children_of}
use Rattle.ecma_print.proofs.inside.Inside.sequence.Given as goal

-- what was written, and the expressions that are left
abbrev pub invariant-loop-i : goal.invariant-loop-i
invariant-loop-i g l =
    (rest : List ℕ) → l.out.bytes.items ++ more_of_sequence (map laid (drop l.i l.items)) l.spot l.self.margin.now rest ≡ l.fn.out.bytes.items ++ sequence (children_of l.self) l.spot l.self.margin.now rest
