use Rattle.ecma_bind_interface.proofs.Enclosed.{enclosing_keeps}
use Rattle.ecma_bind_interface.proofs.enclosing_keeps_interfaces.Goals as goal

pub returns : goal.returns
returns c = enclosing_keeps
