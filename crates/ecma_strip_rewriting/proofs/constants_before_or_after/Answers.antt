use Rattle.ecma_strip_rewriting.proofs.Imports.{constants_before_or_after}
use Rattle.ecma_strip_rewriting.proofs.constants_before_or_after.Goals as goal

pub returns : goal.returns
returns c = constants_before_or_after
