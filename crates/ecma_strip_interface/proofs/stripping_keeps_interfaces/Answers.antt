use Rattle.ecma_strip_interface.proofs.Stripped.{stripping_keeps}
use Rattle.ecma_strip_interface.proofs.stripping_keeps_interfaces.Goals as goal

pub returns : goal.returns
returns c = stripping_keeps
