use Rattle.ecma_print_shapes.proofs.Forming as law
use Rattle.ecma_print_shapes.proofs.modules_have_their_shapes.Goals as goal

pub returns : goal.returns
returns c = law.modules_have_shapes
