use Rattle.ecma_function_wrappers.proofs.Bounded.{one-a-parameter, one-a-wrapper}
use Rattle.ecma_function_wrappers.proofs.laws.at_most_one_context_is_drawn_for_a_parameter_or_a_wrapper.Goals as goal

pub returns-clause-parameters : goal.returns-clause-parameters
returns-clause-parameters c = one-a-parameter

pub returns-clause-wrapper : goal.returns-clause-wrapper
returns-clause-wrapper c = one-a-wrapper
