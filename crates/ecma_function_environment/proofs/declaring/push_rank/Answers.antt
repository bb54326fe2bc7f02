use Rattle.std.proofs.Common.{◌++◌}
use Rattle.ecma_function_environment.specs.Declaring.{of_rank}
use Rattle.ecma_function_environment.proofs.Ranks.{rank-next}
use Rattle.ecma_function_environment.proofs.declaring.push_rank.Goals as goal

pub loop-i-preserved : goal.loop-i-preserved
loop-i-preserved c =
    rank-next c.args.rank c.args.names.now.entries (c.args.to.now ++ of_rank c.args.rank c.args.names.now.entries) c.loop-i.to c.push_at.new.to c.loop-i.i (c.in_ok-push_at.ensures {u = tt})
    c.loop-i.invariant
