use Rattle.ecma_strip_scopes.proofs.StrippedModules as law
use Rattle.ecma_strip_scopes.proofs.stripped_modules_tell_scopes_apart.Goals as goal

pub returns : goal.returns
returns c = law.stripped-modules-tell-apart
