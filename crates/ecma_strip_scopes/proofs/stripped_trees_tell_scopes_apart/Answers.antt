use Rattle.ecma_strip_scopes.proofs.StrippedScopes as law
use Rattle.ecma_strip_scopes.proofs.stripped_trees_tell_scopes_apart.Goals as goal

pub returns : goal.returns
returns c = law.stripped-tells-apart
