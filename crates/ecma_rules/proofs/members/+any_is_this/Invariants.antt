use Rattle.std.proofs.Common.{length}
use Rattle.ecma_rules.proofs.members.+any_is_this.Given as goal

abbrev pub decreases-any_is_this : goal.decreases-any_is_this
decreases-any_is_this l = length l.patterns.now
