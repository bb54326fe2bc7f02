use Rattle.ecma_strip_scopes.proofs.ScopesDeclare as law
use Rattle.ecma_strip_scopes.proofs.scopes_declare_what_stays.Goals as goal

pub returns : goal.returns
returns c = law.scopes-declare
