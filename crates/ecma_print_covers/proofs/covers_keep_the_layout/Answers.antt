use Rattle.ecma_print_covers.proofs.Covering as law
use Rattle.ecma_print_covers.proofs.covers_keep_the_layout.Goals as goal

pub returns : goal.returns
returns c = law.covers_keep_the_layout
