use Rattle.ecma_strip_scopes.proofs.Declared as law
use Rattle.ecma_strip_scopes.proofs.what_stays_is_declared.Goals as goal

pub returns : goal.returns
returns c = law.what-stays-is-declared
