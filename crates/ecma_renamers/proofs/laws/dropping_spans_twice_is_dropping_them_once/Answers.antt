use Rattle.ecma_renamers.proofs.Dropping.{dropping_twice}
use Rattle.ecma_renamers.proofs.laws.dropping_spans_twice_is_dropping_them_once.Goals as goal

pub returns : goal.returns
returns c = dropping_twice
