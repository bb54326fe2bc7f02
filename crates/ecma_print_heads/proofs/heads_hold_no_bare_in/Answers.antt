use Rattle.ecma_print_heads.proofs.BareIn as law
use Rattle.ecma_print_heads.proofs.heads_hold_no_bare_in.Goals as goal

pub returns : goal.returns
returns c = law.heads_hold_no_bare_in
