use Rattle.ecma_hygiene.proofs.Capturing.{nothing-is-captured}
use Rattle.ecma_hygiene.proofs.laws.nothing_is_captured.Goals as goal

pub returns : goal.returns
returns c = nothing-is-captured
