use Rattle.std.proofs.Common.{◌≡◌}
use Rattle.ecma_function_environment.specs.Declaring.{of_ranks}
use Rattle.ecma_function_environment.proofs.declaring.in_rank_order.Given as goal

-- the ranks so far
abbrev pub invariant-loop-rank : goal.invariant-loop-rank
invariant-loop-rank l = l.all ≡ of_ranks l.rank l.names.entries
