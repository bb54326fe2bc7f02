use Rattle.ecma_exports_hygiene.proofs.Untouched as law
use Rattle.ecma_exports_hygiene.proofs.bindings_that_are_not_captured_keep_their_texts.Goals as goal

pub returns : goal.returns
returns c = law.bindings-keep
