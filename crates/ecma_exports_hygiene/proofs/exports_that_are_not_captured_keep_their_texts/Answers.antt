use Rattle.ecma_exports_hygiene.proofs.Captured as law
use Rattle.ecma_exports_hygiene.proofs.exports_that_are_not_captured_keep_their_texts.Goals as goal

pub returns : goal.returns
returns c = law.exports-that-are-not-captured c.stripping_makes_no_names.ensures
