use Rattle.std.proofs.Common.{◌≡◌, ◌++◌, ℕ, List, drop, map}
use Rattle.ecma_print.specs.Lists.{specifiers, more_specifiers}
use Rattle.ecma_print.specs.Layout.{laid, children_of}
use Rattle.ecma_print.proofs.inside.Inside.specifiers.Given as goal

-- what was written, and the specifiers that are left
abbrev pub invariant-loop-i : goal.invariant-loop-i
invariant-loop-i g l =
    (rest : List ℕ) → l.out.bytes.items ++ more_specifiers l.named (map laid (drop l.i l.items)) l.self.margin.now rest ≡ l.fn.out.bytes.items ++ specifiers (children_of l.self) l.self.margin.now rest
