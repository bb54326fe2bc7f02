use Rattle.ecma_hygiene_scopes.proofs.WrittenStays.{written-modules-stay}
use Rattle.ecma_hygiene_scopes.proofs.written_modules_stay.Goals as goal

pub returns : goal.returns
returns c = written-modules-stay
