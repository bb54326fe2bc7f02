use Rattle.ecma_hygiene_exists.proofs.Leaving.{leave-sixteen}
use Rattle.ecma_hygiene_exists.proofs.needed_contexts_leave_sixteen.Goals as goal

pub returns : goal.returns
returns c = leave-sixteen
