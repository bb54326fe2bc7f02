use Rattle.ecma_print_congruence.proofs.Layouts as law
use Rattle.ecma_print_congruence.proofs.spans_do_not_matter_to_layouts.Goals as goal

pub returns : goal.returns
returns c = law.spans_do_not_matter_to_layouts
