use Rattle.ecma_function_wrappers.proofs.StandIns.{each-has-one}
use Rattle.ecma_function_wrappers.proofs.laws.each_parameter_that_counts_has_a_stand_in.Goals as goal

pub returns : goal.returns
returns c = each-has-one
