use Rattle.ecma_strip_idempotent.proofs.Twice as law
use Rattle.ecma_strip_idempotent.proofs.stripping_twice_is_stripping_once.Goals as goal

pub returns : goal.returns
returns c = law.stripping_twice_is_stripping_once
