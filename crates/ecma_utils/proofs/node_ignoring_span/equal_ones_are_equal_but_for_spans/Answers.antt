use Rattle.ecma_utils.proofs.Ignoring.{same_is_equal}
use Rattle.ecma_utils.proofs.node_ignoring_span.equal_ones_are_equal_but_for_spans.Goals as goal

pub returns : goal.returns
returns c = same_is_equal
