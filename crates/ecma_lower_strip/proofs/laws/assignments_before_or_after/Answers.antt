use Rattle.ecma_lower_strip.proofs.Law.{assignments_before_or_after}
use Rattle.ecma_lower_strip.proofs.laws.assignments_before_or_after.Goals as goal

pub returns : goal.returns
returns c = assignments_before_or_after
