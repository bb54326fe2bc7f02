use Rattle.ecma_print_heads.proofs.Covered as law
use Rattle.ecma_print_heads.proofs.covers_hold_no_bare_in.Goals as goal

pub returns : goal.returns
returns c = law.covers_hold_no_bare_in
