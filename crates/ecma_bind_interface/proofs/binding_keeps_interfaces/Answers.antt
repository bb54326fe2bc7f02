use Rattle.ecma_bind_interface.proofs.Bound.{binding_keeps}
use Rattle.ecma_bind_interface.proofs.binding_keeps_interfaces.Goals as goal

pub returns : goal.returns
returns c = binding_keeps
