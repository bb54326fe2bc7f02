use Rattle.ecma_function_environment.proofs.Bounded.{two-for-declarators}
use Rattle.ecma_function_environment.proofs.laws.at_most_two_contexts_are_drawn_for_a_declarator.Goals as goal

pub returns : goal.returns
returns c = two-for-declarators
