use Rattle.ecma_utils.specs.IgnoringLaws.{equals_hash_alike}
use Rattle.ecma_utils.proofs.node_ignoring_span.equal_ones_hash_alike.Goals as goal

pub returns : goal.returns
returns c = equals_hash_alike
