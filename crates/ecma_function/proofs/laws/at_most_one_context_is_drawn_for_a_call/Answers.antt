use Rattle.ecma_function.proofs.Bounded.{at_most_one}
use Rattle.ecma_function.proofs.laws.at_most_one_context_is_drawn_for_a_call.Goals as goal

pub returns : goal.returns
returns c = at_most_one
