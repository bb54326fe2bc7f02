use Rattle.ecma_hygiene_scopes.proofs.StayingApart.{stay-apart}
use Rattle.ecma_hygiene_scopes.proofs.ids_stay_apart.Goals as goal

pub returns : goal.returns
returns c = stay-apart
