use Rattle.ecma_strip_scopes.proofs.StrippedScopes as law
use Rattle.ecma_strip_scopes.proofs.stripped_trees_declare_texts_once.Goals as goal

pub returns : goal.returns
returns c = law.stripped-declares-once
