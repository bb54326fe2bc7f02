use Rattle.ecma_hygiene_scopes.proofs.ReadingAgain.{is-read-again}
use Rattle.ecma_hygiene_scopes.proofs.what_is_read_again_has_its_ids.Goals as goal

pub returns : goal.returns
returns c = is-read-again
