use Rattle.ecma_utils.proofs.Ignoring.{spans_change_neither}
use Rattle.ecma_utils.proofs.node_ignoring_span.spans_change_neither.Goals as goal

pub returns : goal.returns
returns c = spans_change_neither
