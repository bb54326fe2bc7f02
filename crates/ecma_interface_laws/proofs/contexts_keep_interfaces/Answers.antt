use Rattle.ecma_interface_laws.proofs.Changed.{contexts_keep}
use Rattle.ecma_interface_laws.proofs.contexts_keep_interfaces.Goals as goal

pub returns : goal.returns
returns c = contexts_keep
