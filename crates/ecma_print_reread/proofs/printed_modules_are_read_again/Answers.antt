use Rattle.ecma_print_reread.proofs.Law.{modules_read}
use Rattle.ecma_print_reread.proofs.printed_modules_are_read_again.Goals as goal

pub returns : goal.returns
returns c = modules_read
