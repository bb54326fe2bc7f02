use Rattle.ecma_strip_scopes.proofs.Exporting as law
use Rattle.ecma_strip_scopes.proofs.what_goes_declares_nothing.Goals as goal

pub returns : goal.returns
returns c = law.what-goes-declares-nothing
