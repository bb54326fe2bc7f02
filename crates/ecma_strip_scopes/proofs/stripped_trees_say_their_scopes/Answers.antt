use Rattle.ecma_strip_scopes.proofs.StrippedScopes as law
use Rattle.ecma_strip_scopes.proofs.stripped_trees_say_their_scopes.Goals as goal

pub returns : goal.returns
returns c = law.stripped-says-scopes
