use Rattle.std.proofs.Common.{◌≡◌, ◌+◌, drop}
use Rattle.std.specs.List.{prefix_len}
use Rattle.ecma_function_wrappers.specs.Counting.{counts}
use Rattle.ecma_function_wrappers.proofs.counting.that_count.Given as goal

-- the first i parameters count
abbrev pub invariant-loop-i : goal.invariant-loop-i
invariant-loop-i l = l.i + prefix_len counts (drop l.i l.params) ≡ prefix_len counts l.params
