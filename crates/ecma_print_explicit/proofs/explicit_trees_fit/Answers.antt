use Rattle.ecma_print_explicit.proofs.Explicit.{trees_fit}
use Rattle.ecma_print_explicit.proofs.explicit_trees_fit.Goals as goal

pub returns : goal.returns
returns c = trees_fit
