use Rattle.std.proofs.Common.{◌≡◌, ◌++◌, ℕ, List, drop, map}
use Rattle.ecma_print.specs.Lists.{commas, more_commas}
use Rattle.ecma_print.specs.Layout.{laid, children_of}
use Rattle.ecma_print.proofs.inside.Inside.commas.Given as goal

-- what was written, and the items that are left
abbrev pub invariant-loop-i : goal.invariant-loop-i
invariant-loop-i g l =
    (rest : List ℕ) → l.out.bytes.items ++ more_commas l.spot (map laid (drop l.i l.items)) l.self.margin.now rest ≡ l.fn.out.bytes.items ++ commas l.spot (children_of l.self) l.self.margin.now rest
