use Rattle.ecma_print_interface.proofs.Explicit.{parentheses_keep}
use Rattle.ecma_print_interface.proofs.parentheses_keep_interfaces.Goals as goal

pub returns : goal.returns
returns c = parentheses_keep
