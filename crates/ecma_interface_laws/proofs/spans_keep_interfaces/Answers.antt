use Rattle.ecma_interface_laws.proofs.Changed.{spans_keep}
use Rattle.ecma_interface_laws.proofs.spans_keep_interfaces.Goals as goal

pub returns : goal.returns
returns c = spans_keep
