use Rattle.std.proofs.Common.{length}
use Rattle.ecma_rules.proofs.members.+any_is_this_parameter.Given as goal

abbrev pub decreases-any_is_this_parameter : goal.decreases-any_is_this_parameter
decreases-any_is_this_parameter l = length l.parameters.now
