use Rattle.ecma_hygiene_scopes.proofs.ReadingAgain.{follows-its-texts}
use Rattle.ecma_hygiene_scopes.proofs.what_is_read_again_has_its_bindings.Goals as goal

pub returns : goal.returns
returns c = follows-its-texts
