use Rattle.std.proofs.Common.{◌≡◌, ◌++◌, ℕ, List, drop, map}
use Rattle.ecma_print.specs.Lists.{new_lines}
use Rattle.ecma_print.specs.Layout.{laid, children_of}
use Rattle.ecma_print.proofs.inside.Inside.new_lines.Given as goal

-- what was written, and the lines of the items that are left
abbrev pub invariant-loop-item : goal.invariant-loop-item
invariant-loop-item g l =
    (rest : List ℕ) → l.out.bytes.items ++ new_lines (map laid (drop l.item-index l.item-items)) l.margin rest ≡ l.fn.out.bytes.items ++ new_lines (children_of l.self) l.margin rest
