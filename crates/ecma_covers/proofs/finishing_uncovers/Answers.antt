use Rattle.ecma_covers.proofs.Uncovering as law
use Rattle.ecma_covers.proofs.finishing_uncovers.Goals as goal

pub returns : goal.returns
returns c = law.finishing_uncovers
