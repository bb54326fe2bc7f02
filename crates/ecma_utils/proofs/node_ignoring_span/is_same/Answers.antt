use Rattle.ecma_utils.proofs.Ignoring.{is_same}
use Rattle.ecma_utils.proofs.node_ignoring_span.is_same.Goals as goal

pub returns : goal.returns
returns c = is_same c.same_but_for_spans.result c.args.node.now c.args.other.now c.same_but_for_spans.ensures
