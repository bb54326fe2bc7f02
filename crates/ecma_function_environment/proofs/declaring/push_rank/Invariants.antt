use Rattle.std.proofs.Common.{◌≡◌, ◌++◌}
use Rattle.ecma_function_environment.specs.Declaring.{of_rank}
use Rattle.ecma_function_environment.proofs.Ranks.{rank_rest}
use Rattle.ecma_function_environment.proofs.declaring.push_rank.Given as goal

-- those so far, and those from the one at i on
abbrev pub invariant-loop-i : goal.invariant-loop-i
invariant-loop-i l = l.to ++ rank_rest l.rank l.names.entries l.i ≡ l.fn.to ++ of_rank l.rank l.names.entries
