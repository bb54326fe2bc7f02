use Rattle.ecma_marks.proofs.Before.{marked_before_or_after}
use Rattle.ecma_marks.proofs.marked_before_or_after.Goals as goal

pub returns : goal.returns
returns c = marked_before_or_after
